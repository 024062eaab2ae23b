use Rattle.std.proofs.Common.{nat_lt, ap, arith}
use Rattle.sha256_lanes.proofs.Padding.{one_more}
use Rattle.sha256_lanes.proofs.hashing.take_block.Goals as goal

pub returns : goal.returns
returns c held =
    let i = c.args.i in
    record {
      first = one_more c.args.first.now _ _ _ _ i _ (c.kept.ensures 0 (omega arith)) (ap (nat_lt i) c.block_count.ensures) (c.compress.ensures 0 (omega arith)) c.block_of.ensures held.first;
      second = one_more c.args.second.now _ _ _ _ i _ (c.kept.ensures 1 (omega arith)) (ap (nat_lt i) c.block_count-2.ensures) (c.compress.ensures 1 (omega arith)) c.block_of-2.ensures held.second;
      third = one_more c.args.third.now _ _ _ _ i _ (c.kept.ensures 2 (omega arith)) (ap (nat_lt i) c.block_count-3.ensures) (c.compress.ensures 2 (omega arith)) c.block_of-3.ensures held.third;
      fourth = one_more c.args.fourth.now _ _ _ _ i _ (c.kept.ensures 3 (omega arith)) (ap (nat_lt i) c.block_count-4.ensures) (c.compress.ensures 3 (omega arith)) c.block_of-4.ensures held.fourth;
    }
