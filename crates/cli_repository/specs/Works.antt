-- What is done over a repository that was opened, and what a command over one is answered.
use Rattle.std.specs.Prelude.{◌≡◌, ℕ, Result, Ok, Err}
use Rattle.denials.specs.Views.{denial_view}
use Rattle.trust_rules.specs.State.{State}
use Rattle.trust_rules.specs.Runs.{Command}
use Rattle.trust_rules.specs.Runs as runs
use Rattle.store.specs.Applies.{Replies}
use Rattle.store.specs.Standing.{IsClean, Keeps, Moves, Standing, StandsAt}
use Rattle.store.specs.Views.{reply_view}
use Rattle.store.specs.declared.command.Reply.{Reply}
use Rattle.cli_faults.specs.Statuses.{status_of}
use Rattle.cli_faults.specs.declared.fault.Fault.{Fault}
use Rattle.cli_faults.specs.declared.fault.Fault.TheVariants.{Denied}

-- the work as it was, where the store stood, what came of it, where the store stands then, and the work as it is left
abbrev pub Does : Type 0 → Type 0 → Type 1
Does Work Done = Work → Standing → Result Done Fault → Standing → Work → Type 0

-- What is answered came of the work, which was done once, over a store that stood at a state; or no store was opened, the work is as it was,
-- and the fault is none of a denial.
pub data Worked {Work Done : Type 0} (does : Does Work Done) (work : Work) : Result Done Fault → Work → Type 0 where
  over : {r : Result Done Fault} {left : Work} (S : State) (A B : Standing) → StandsAt A S → does work A r B left → Worked does work r left
  unopened : {fault : Fault} → status_of fault ≡ 3 → Worked does work (Err fault) work

-- one command was made at a moment, with this reply; or it was not, what stood stands, and the fault is none of a denial
abbrev pub MakesOne : Command → ℕ → Standing → Result Reply Fault → Standing → Type 0
MakesOne command now A (Ok reply) B = Moves A B (λ S T. Replies (IsClean B) S command now T (reply_view reply))
MakesOne command now A (Err fault) B = (status_of fault ≡ 3) × Keeps A B

-- The command was made over a store that stood at the state S, and left it at T, and the reply is that of the machine's step from the one to
-- the other.
pub record IsReply (command : Command) (now : ℕ) (reply : Reply) : Type 0 where
  pub before : Standing
  pub after : Standing
  pub S : State
  pub T : State
  pub stood : StandsAt before S
  pub stands : StandsAt after T
  pub replies : Replies (IsClean after) S command now T (reply_view reply)

-- an answer is the reply of the step, and a fault is none of a denial
abbrev pub IsAnswered : Command → ℕ → Result Reply Fault → Type 0
IsAnswered command now (Ok reply) = IsReply command now reply
IsAnswered command now (Err fault) = status_of fault ≡ 3

-- How a subcommand ends that was replied so: well, where that is a reply by which it is done; denied, where it is this denial; or by
-- another fault, with status 3.
abbrev pub EndsBy : runs.Reply → (runs.Reply → Type 0) → Result (Unit {0}) Fault → Type 0
EndsBy reply IsDone (Ok u) = IsDone reply
EndsBy reply IsDone (Err (Denied denial index)) = reply ≡ runs.Refused (denial_view denial) index
EndsBy reply IsDone (Err fault) = status_of fault ≡ 3

-- How a subcommand ends that makes one command: as it was replied by the machine's step; a denial is that of a step, which changes nothing;
-- any other fault has status 3.
abbrev pub Ends : Command → ℕ → (runs.Reply → Type 0) → Result (Unit {0}) Fault → Type 0
Ends command now IsDone (Ok u) = (S T : State) × (reply : runs.Reply) × runs.Steps S command now (T, reply) × IsDone reply
Ends command now IsDone (Err (Denied denial index)) = (S : State) × runs.Steps S command now (S, runs.Refused (denial_view denial) index)
Ends command now IsDone (Err fault) = status_of fault ≡ 3
