-- Which words of a rule stand after which.
use Rattle.std.specs.Prelude.{◌≡◌, ℕ, List, ◌∷◌, codes, Option, Some, None}
use Rattle.path_patterns.specs.Grammar.{IsPattern, IsName}
use Rattle.document_parts.specs.Rules.{Side, Match, IsFolder}

-- the words are `IN`, the folder and the rest; with no folder they do not begin with `IN` and a word
abbrev pub IsCut : List (List ℕ) → Option (List ℕ) → List (List ℕ) → Type 0
IsCut words None rest = (rest ≡ words) × ((folder : List ℕ) (later : List (List ℕ)) → words ≡ codes "IN" ∷ folder ∷ later → ⊥)
IsCut words (Some folder) rest = words ≡ codes "IN" ∷ folder ∷ rest

-- each part is of its grammar
abbrev pub AreParts : List ℕ → Option (List ℕ) → Option (List ℕ) → List ℕ → Type 0
AreParts pattern from to step = IsPattern pattern × IsFolder from × IsFolder to × IsName step

-- the rule of these parts, or none where a part is not of its grammar
abbrev pub IsMatch : List ℕ → Option (List ℕ) → Side → Option (List ℕ) → List ℕ → Option Match → Type 0
IsMatch pattern from side to step None = AreParts pattern from to step → ⊥
IsMatch pattern from side to step (Some m) = AreParts pattern from to step × (m ≡ record { pattern = pattern; from = from; side = side; to = to; step = step })
