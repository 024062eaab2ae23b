use Rattle.std.proofs.Common.{◌≡◌, ℕ, [], ◌<◌, ◌*◌, length, slice_index_or}
use Rattle.sha2.specs.Sha256.{word_at}
use Rattle.sha256_lanes.specs.steps.Lanes.{lane_at}
use Rattle.sha256_lanes.proofs.blocks.words.Given as goal

abbrev pub invariant-load : goal.invariant-load
invariant-load l = (length l.w ≡ 16) × ((j k : ℕ) → j < 4 → k < l.i → lane_at l.w k j ≡ word_at (slice_index_or l.blocks j []) (4 * k))
