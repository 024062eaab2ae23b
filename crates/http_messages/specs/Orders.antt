-- Orders of checks that end in the fault by which a request is no command.
use Rattle.std.specs.Prelude.{Ok, Err}
use Rattle.http_messages.specs.declared.faults.Fault.{Fault}
pub use Rattle.denials.specs.Checks.{pass, decide, holds, fails, given, ◌>>=◌, ◌>>◌, give}
use Rattle.denials.specs.Checks.{Check, JudgedBy, OrderOver}

abbrev pub Judged : Type 0 → Type 0
Judged A = JudgedBy Fault A

abbrev pub Order : Type 0 → Type 1
Order A = OrderOver Fault A

pub data Find {A : Type 0} (why : Fault) (P : A → Type 0) : Judged A → Type 0 where
  found : {a : A} → P a → Find why P (Ok a)
  lacks : ((a : A) → ¬ P a) → Find why P (Err why)

-- this fault unless the fact holds
abbrev pub check : Fault → Type 0 → Order (Unit {0})
check why P = Check why P

-- what the fact holds of, or this fault where it holds of nothing
abbrev pub find : {A : Type 0} → Fault → (A → Type 0) → Order A
find why P = Find why P
