use Rattle.std.proofs.Common.{ℕ, ◌<◌, ◌*◌, [], slice_index_or}
use Rattle.sha2.specs.Sha256.{IsRoundsAt}
use Rattle.sha256_lanes.specs.steps.Lanes.{lane, column}
use Rattle.sha256_lanes.proofs.rounds.compress.Given as goal

abbrev pub invariant-schedule : goal.invariant-schedule
invariant-schedule l = (j : ℕ) → j < 4 → IsRoundsAt (slice_index_or l.blocks j []) (lane j l.state) (column j l.w) (lane j l.v) (16 * l.turn)
