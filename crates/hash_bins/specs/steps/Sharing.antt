-- How the bins come about: each number takes its share off the prefixes that are left.
use Rattle.std.specs.Prelude.{ℕ, List, [], ◌∷◌, drop, length, nat_lt, take, if◌then◌else◌}
use Rattle.hash_bins.specs.Bins.{Bin}
use Rattle.hash_bins.specs.declared.bins.Count.{Count}
use Rattle.hash_bins.specs.declared.bins.Count.TheVariants as counts

-- how many prefixes each bin has
abbrev pub share_of : Count → ℕ
share_of counts.Two = 8
share_of counts.Four = 4
share_of counts.Eight = 2
share_of counts.Sixteen = 1
share_of counts.ThirtyTwo = 8
share_of counts.SixtyFour = 4

-- the bins of these numbers, up to the first for which too few prefixes are left
abbrev pub bins_with : ℕ → List (List ℕ) → List (List ℕ) → List Bin
bins_with share [] rest = []
bins_with share (n ∷ ns) rest = if nat_lt (length rest) share then [] else record { number = n; prefixes = take share rest } ∷ bins_with share ns (drop share rest)
