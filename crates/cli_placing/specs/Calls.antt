-- The calls of a file system, as they are told.
use Rattle.std.specs.Prelude.{◌≡◌, ℕ, List, [], ◌∷◌, ◌++◌, Bool, Option, Some, None, Result, Ok, Err, ⊤}
use Rattle.cli_placing.specs.declared.calls.Found.{Found}

-- the path of a file
abbrev pub Name : Type 0
Name = List ℕ

-- what one call is to do, each with the name that it is about: a new file with a mode, less the process's mask; bytes at its end; another
-- mode; all of it on the disk; another name; or nothing left of it
pub data Step : Type 0 where
  create : Name → ℕ → Step
  write : Name → List ℕ → Step
  give_mode : Name → ℕ → Step
  sync : Name → Step
  rename : Name → Name → Step
  remove : Name → Step

-- a call that was made: a place was looked at, with what was seen there, or nothing after an error; or a step was made, and it answered Ok
pub data Call : Type 0 where
  look : Name → Option Found → Call
  did : Step → Bool → Call

-- what was seen, unless the answer was an error
abbrev pub seen : {E : Type 0} → Result Found E → Option Found
seen (Ok found) = Some found
seen (Err error) = None

-- a log that is kept has one more call, the last
abbrev pub Tells : Option (List Call) → Option (List Call) → Call → Type 0
Tells None new call = ⊤
Tells (Some before) new call = new ≡ Some (before ++ call ∷ [])
