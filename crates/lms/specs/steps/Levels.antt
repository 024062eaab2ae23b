-- One level of a signature of several.
use Rattle.std.specs.Prelude.{◌≡◌, ℕ, List, ◌++◌, length}
use Rattle.lms.specs.Verifies.{Verifies}

-- of all ways to cut bytes into a signature, a key and what follows them, this is the only one that may verify
abbrev pub IsOnlyCut : List ℕ → List ℕ → List ℕ → List ℕ → List ℕ → Type 0
IsOnlyCut signer rest signature next later =
    (s n l : List ℕ) → rest ≡ s ++ (n ++ l) → length n ≡ 56 → Verifies signer n s → (s ≡ signature) × (n ≡ next) × (l ≡ later)
