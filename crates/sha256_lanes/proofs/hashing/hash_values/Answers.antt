use Rattle.std.proofs.Common.{arith}
use Rattle.sha256_lanes.proofs.Padding.{no_blocks}
use Rattle.sha256_lanes.proofs.hashing.hash_values.Goals as goal

pub turn-init : goal.turn-init
turn-init c =
    let zero = c.initial-state.ensures in
    record {
      first = no_blocks c.args.first.now _ (zero 0 (omega arith));
      second = no_blocks c.args.second.now _ (zero 1 (omega arith));
      third = no_blocks c.args.third.now _ (zero 2 (omega arith));
      fourth = no_blocks c.args.fourth.now _ (zero 3 (omega arith));
    }
