-- A text before its first slash, and from there on.
use Rattle.std.specs.Prelude.{◌≡◌, ◌≢◌, ◌⊎◌, ℕ, List, [], ◌∷◌, ◌++◌}
use Rattle.std.specs.List.{AllByRecursion}

-- what stands from the first slash on: nothing, or what begins with it
abbrev pub BeginsWithSlash : List ℕ → Type 0
BeginsWithSlash text = (text ≡ []) ⊎ ((rest : List ℕ) × (text ≡ 47 ∷ rest))

pub record IsCut (text front back : List ℕ) : Type 0 where
  pub whole : text ≡ front ++ back
  pub is_front : AllByRecursion (λ b. b ≢ 47) front
  pub is_back : BeginsWithSlash back
