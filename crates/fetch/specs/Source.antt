-- What a source of files answers.
use Rattle.std.specs.Prelude.{ℕ, List, [], ◌∷◌, Option, Result, Ok, Err, option_map}
use Rattle.std.proofs.Common.{Vec, Global}
use Rattle.fetch.specs.declared.FetchFault.{FetchFault}

-- the bytes of the file of a name, none, or a fault
abbrev pub Answer : Type 0
Answer = Result (Option (List ℕ)) FetchFault

-- the source that was, the name and the limit that it was asked for, what it answered, the source that is left
abbrev pub Gives : Type 0 → Type 1
Gives Src = Src → List ℕ → ℕ → Answer → Src → Type 0

-- what a source was asked for in order: names, each with the limit of its answer
pub data Asked {Src : Type 0} (gives : Gives Src) : Src → List (List ℕ × ℕ) → Src → Type 0 where
  none : {s : Src} → Asked gives s [] s
  one : {s t u : Src} {name : List ℕ} {limit : ℕ} {answer : Answer} {more : List (List ℕ × ℕ)}
      → gives s name limit answer t → Asked gives t more u → Asked gives s ((name, limit) ∷ more) u

-- the code's answer
abbrev pub items_of : Vec ℕ Global → List ℕ
items_of v = v.items

abbrev pub answered : Result (Option (Vec ℕ Global)) FetchFault → Answer
answered (Ok file) = Ok (option_map items_of file)
answered (Err fault) = Err fault
