-- The body of a request: so many bytes after the head, or the input ends early.
use Rattle.std.specs.Prelude.{◌≡◌, ℕ, ◌<◌, ◌≤◌, List, length, take, Option, Some, None}

-- the first len bytes of what follows the head, or there are fewer
abbrev pub IsBody : List ℕ → ℕ → Option (List ℕ) → Type 0
IsBody rest len None = length rest < len
IsBody rest len (Some body) = (len ≤ length rest) × (body ≡ take len rest)
