-- What `publish --in` does where target files wait: they are put, one after the other, and then one batch is offered.
use Rattle.std.specs.Prelude.{◌≡◌, ◌⊎◌, ℕ, List, Result, Ok, Err, Option}
use Rattle.denials.specs.Orders.{Denial}
use Rattle.denials.specs.Views.{denial_view}
use Rattle.trust_rules.specs.State.{State}
use Rattle.trust_rules.specs.Runs.{Command, PutBlob, Refused, Steps}
use Rattle.trust_rules.specs.Runs as runs
use Rattle.store.specs.Standing.{Keeps, Standing}
use Rattle.store.specs.Views.{reply_view}
use Rattle.store.specs.declared.command.Reply.{Reply}
use Rattle.cli_faults.specs.declared.fault.Fault.{Fault}
use Rattle.cli_faults.specs.declared.fault.Fault.TheVariants.{Denied}
use Rattle.cli_repository.specs.Works.{MakesOne}

-- From the one standing to the other target files were put at a moment, one after the other, each by the machine's step, whatever it replied.
-- Nothing else was done.
pub data PutsOver (now : ℕ) : Standing → Standing → Type 0 where
  none : {A : Standing} → PutsOver now A A
  kept : {A B C : Standing} → PutsOver now A B → Keeps B C → PutsOver now A C
  put : {A B C : Standing} (digest bytes : List ℕ) (reply : Reply) → PutsOver now A B → MakesOne (PutBlob digest bytes) now B (Ok reply) C → PutsOver now A C

-- a put was denied so
abbrev pub IsPutDenied : ℕ → Standing → Denial → Option ℕ → Standing → Type 0
IsPutDenied now A denial index B =
    (digest bytes : List ℕ) × (reply : Reply) × MakesOne (PutBlob digest bytes) now A (Ok reply) B × (reply_view reply ≡ Refused denial index)

-- Not all was done: files were put, and nothing else was; where it ends by a denial, that is the one of the last put.
abbrev pub NotDone : ℕ → Standing → Fault → Standing → Type 0
NotDone now A (Denied denial index) C = (B : Standing) × PutsOver now A B × IsPutDenied now B (denial_view denial) index C
NotDone now A fault C = PutsOver now A C

abbrev pub AllPut : ℕ → Standing → Result (Unit {0}) Fault → Standing → Type 0
AllPut now A (Ok u) B = PutsOver now A B
AllPut now A (Err fault) B = NotDone now A fault B

-- files were put, and then the batch was judged, with this reply
abbrev pub PublishesOver : Command → ℕ → Standing → Result Reply Fault → Standing → Type 0
PublishesOver command now A (Ok reply) C = (B : Standing) × PutsOver now A B × MakesOne command now B (Ok reply) C
PublishesOver command now A (Err fault) C = NotDone now A fault C

-- the fault is none of a denial
abbrev pub IsUndenied : Fault → Type 0
IsUndenied (Denied denial index) = ⊥
IsUndenied fault = Unit {0}

-- from the one state to the other target files were put
pub data Puts (now : ℕ) : State → State → Type 0 where
  no_puts : {S : State} → Puts now S S
  one_put : {S T U : State} (digest bytes : List ℕ) (reply : runs.Reply) → Puts now S T → Steps T (PutBlob digest bytes) now (U, reply) → Puts now S U

-- How `publish --in` ends over a database where files wait: well, where they were put and the batch was then taken, by the machine's step; denied,
-- where it is the denial of the batch after the puts, which changes nothing, or that of a put. Of another fault nothing is said.
abbrev pub EndsAfterPuts : Command → ℕ → (runs.Reply → Type 0) → Result (Unit {0}) Fault → Type 0
EndsAfterPuts command now IsDone (Ok u) = (S T U : State) × (reply : runs.Reply) × Puts now S T × Steps T command now (U, reply) × IsDone reply
EndsAfterPuts command now IsDone (Err (Denied denial index)) = (S T : State) × Puts now S T
    × (Steps T command now (T, Refused (denial_view denial) index) ⊎ ((digest bytes : List ℕ) × Steps T (PutBlob digest bytes) now (T, Refused (denial_view denial) index)))
EndsAfterPuts command now IsDone (Err fault) = Unit {0}
