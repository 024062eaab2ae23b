-- What a server of a state answers at a moment, to whoever asks it for files by their names.
use Rattle.std.specs.Borrow.{Bor}
use Rattle.std.specs.Prelude.{◌≡◌, ℕ, ◌≤◌, ◌<◌, ◌++◌, Option, Some, None, Result, Ok, Err, codes, length, option_map}
use Rattle.metadata.specs.File.{Bytes}
use Rattle.denials.specs.Orders as orders
use Rattle.path_patterns.specs.Names.{IsNameOf}
use Rattle.trust_rules.specs.State.{State, metadata_of}
use Rattle.trust_rules.specs.Grants.{grants}
use Rattle.fetch.specs.Source.{Answer, Gives}
use Rattle.fetch.specs.declared.FetchFault.{FetchFault}
use Rattle.fetch.specs.declared.FetchFault.TheVariants.{TooLong, OutOfMemory}

-- a file of which this is so, within the limit; none, where it is so of none; or that it is longer than the limit. Or there was no memory
pub data IsAnswer (limit : ℕ) (Has : Option Bytes → Type 0) : Answer → Type 0 where
  gives : {b : Bytes} → Has (Some b) → length b ≤ limit → IsAnswer limit Has (Ok (Some b))
  has_none : Has None → IsAnswer limit Has (Ok None)
  is_longer : {b : Bytes} → Has (Some b) → limit < length b → IsAnswer limit Has (Err TooLong)
  lacks_memory : IsAnswer limit Has (Err OutOfMemory)

-- the bytes of a target that are granted, or none, where it is denied
abbrev pub IsServed : State → Bytes → Option Bytes → ℕ → Option Bytes → Type 0
IsServed S path digest now (Some b) = grants S path digest now (Ok b)
IsServed S path digest now None = (d : orders.Denial) × grants S path digest now (Err (orders.Denied d))

-- `metadata/F` is the metadata file F, `targets/P` the target that P asks for, and no other name has a file
pub record IsHeldAs (S : State) (now : ℕ) (name : Bytes) (found : Option Bytes) : Type 0 where
  pub metadata : (file : Bytes) → name ≡ codes "metadata/" ++ file → found ≡ metadata_of S.trusted file
  pub target : (text path : Bytes) (digest : Option Bytes) → name ≡ codes "targets/" ++ text → IsNameOf text path digest → IsServed S path digest now found
  pub other : ((file : Bytes) → name ≡ codes "metadata/" ++ file → ⊥) → ((text : Bytes) → name ≡ codes "targets/" ++ text → ⊥) → found ≡ None

abbrev pub AnswersFrom : State → ℕ → Bytes → ℕ → Answer → Type 0
AnswersFrom S now name limit answer = IsAnswer limit (IsHeldAs S now name) answer

-- a source that answers so, and goes on to
pub record IsHonest {Src : Type 0} (gives : Gives Src) (Is : Src → Type 0) (S : State) (now : ℕ) : Type 0 where
  pub answers : (s t : Src) (name : Bytes) (limit : ℕ) (answer : Answer) → Is s → gives s name limit answer t → AnswersFrom S now name limit answer
  pub stays : (s t : Src) (name : Bytes) (limit : ℕ) (answer : Answer) → Is s → gives s name limit answer t → Is t

-- what was looked for under a name, lent from the state
abbrev pub IsFoundAs : State → ℕ → Bytes → Result (Option (Bor Bytes)) FetchFault → Type 0
IsFoundAs S now name (Ok found) = IsHeldAs S now name (option_map (λ b. b.now) found)
IsFoundAs S now name (Err fault) = fault ≡ OutOfMemory
