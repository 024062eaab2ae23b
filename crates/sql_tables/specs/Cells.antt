-- What cells of a row hold.
use Rattle.std.specs.Prelude.{◌≡◌, ◌<◌, ℕ, List, length}
use Rattle.std.specs.List.{AllByRecursion}

-- a digest of 32 bytes
abbrev pub IsDigest : List ℕ → Type 0
IsDigest d = (length d ≡ 32) × AllByRecursion (λ b. b < 256) d
