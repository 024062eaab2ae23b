-- Orders of checks that end in a denial, or without a change.
use Rattle.std.specs.Prelude.{ℕ, Bool, true, ◌==◌, Option, Some, None, Ok, Err, List}
use Rattle.denials.specs.Numbers as no
use Rattle.denials.specs.Numbers.{name_of}
pub use Rattle.denials.specs.Checks.{pass, decide, holds, fails, given, stopped, judges, ◌>>=◌, ◌>>◌, give, stop, each, judged}
use Rattle.denials.specs.Checks.{Check, JudgedBy, OrderOver}

-- A denial by its number. Two say what is missing: the document of a role at a version, and the file of a target at a path, with the
-- digest and the length that are listed.
pub data Denial : Type 0 where
  Plain : ℕ → Denial
  RoleMissing : List ℕ → ℕ → Denial
  BlobMissing : List ℕ → List ℕ → ℕ → Denial

abbrev pub number : Denial → ℕ
number (Plain n) = n
number (RoleMissing role version) = no.role_missing
number (BlobMissing path digest len) = no.blob_missing

abbrev pub name : Denial → List ℕ
name d = name_of (number d)

-- what was asked for is not there: a role's document, a listing of the path, or a file
abbrev pub is_missing : Denial → Bool
is_missing (Plain n) = n == no.not_found
is_missing (RoleMissing role version) = true
is_missing (BlobMissing path digest len) = true

-- what ends a case early
pub data Stop : Type 0 where
  Denied : Denial → Stop
  Same : Stop

abbrev pub Judged : Type 0 → Type 0
Judged A = JudgedBy Stop A

abbrev pub Order : Type 0 → Type 1
Order A = OrderOver Stop A

pub data SameIf (P : Type 0) : Judged (Unit {0}) → Type 0 where
  differs : ¬ P → SameIf P (Ok tt)
  same : P → SameIf P (Err Same)

abbrev pub denied : {A : Type 0} → ℕ → Order A
denied n = stop (Denied (Plain n))

-- denied with this number unless the fact holds
abbrev pub check : ℕ → Type 0 → Order (Unit {0})
check n P = Check (Denied (Plain n)) P

abbrev pub need_or : {A : Type 0} → Denial → Option A → Order A
need_or d (Some a) = give a
need_or d None = stop (Denied d)

-- denied with this number where there is no value
abbrev pub need : {A : Type 0} → ℕ → Option A → Order A
need n o = need_or (Plain n) o

-- ends without a change where the fact holds
abbrev pub same_if : Type 0 → Order (Unit {0})
same_if P = SameIf P
