-- How a pattern is held against a text byte by byte, with the run of the last `*` as long as it has to be.
use Rattle.std.specs.Prelude.{◌≡◌, ◌≢◌, ℕ, List, [], ◌∷◌, Option, Some, None, Bool, true, false, not, ◌==◌, ◌&&◌}
use Rattle.path_patterns.specs.Tests.{matches, after_run, passes}
use Rattle.path_patterns.specs.declared.wildcards.Wildcards.{Wildcards}
use Rattle.path_patterns.specs.declared.wildcards.Wildcards.TheVariants.{Segmented, Flat}
use Rattle.path_patterns.specs.declared.wildcards.Rest.{Rest}
use Rattle.path_patterns.specs.declared.wildcards.Next.{Next}
use Rattle.path_patterns.specs.declared.wildcards.Next.TheVariants.{Ended, Passed, Run, Differs}

-- the bytes that wildcards stand for
abbrev pub free_of : Wildcards → ℕ → Bool
free_of Segmented b = not (b == 47)
free_of Flat b = true

-- whether the pattern takes the text where the run before it is longer by at least one byte
abbrev pub more : (ℕ → Bool) → List ℕ → List ℕ → Bool
more free pattern [] = false
more free pattern (b ∷ bs) = free b && after_run free (matches free pattern) bs

abbrev pub more_of : (ℕ → Bool) → Option Rest → Bool
more_of free None = false
more_of free (Some run) = more free run.pattern.now run.text.now

-- what comes next in a pattern and a text
abbrev pub IsNext : (ℕ → Bool) → List ℕ → List ℕ → Next → Type 0
IsNext free pattern text Ended = (pattern ≡ []) × (text ≡ [])
IsNext free pattern text (Passed r) =
    (c : ℕ) × (b : ℕ) × (pattern ≡ c ∷ r.pattern.now) × (text ≡ b ∷ r.text.now) × (c ≢ 42) × (passes free c b ≡ true)
IsNext free pattern text (Run r) = (pattern ≡ 42 ∷ r.pattern.now) × (r.text.now ≡ text)
IsNext free pattern text Differs = matches free pattern text ≡ false

-- the run is longer by the first byte of the text
abbrev pub IsLonger : (ℕ → Bool) → Option Rest → Rest → Type 0
IsLonger free None r = ⊥
IsLonger free (Some run) r =
    (b : ℕ) × (run.text.now ≡ b ∷ r.text.now) × (free b ≡ true) × (run.pattern.now ≡ r.pattern.now)
