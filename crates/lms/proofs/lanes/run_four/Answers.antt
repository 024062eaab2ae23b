use Rattle.std.proofs.Common.{slice_index, arith}
use Rattle.lms.specs.steps.Lanes.{chain_at}
use Rattle.lms.proofs.Advances.{put_before, put_four}
use Rattle.lms.proofs.lanes.run_four.Goals as goal

pub returns : goal.returns
returns c =
    let p = c.args.places in
    let lanes = c.steps.lanes in
    let most = c.least_left-count.ensures.each in
    let go = c.steps.invariant.ahead in
    let going = c.requires.going in
    let put = put_four c.args.identifier.now c.args.q c.args.chains.now (slice_index p 0) (slice_index p 1) (slice_index p 2) (slice_index p 3) c.steps._t
    (chain_at lanes 0) (chain_at lanes 1) (chain_at lanes 2) (chain_at lanes 3) going.first going.second going.third going.last
    (go 0 (omega arith), omega (arith, most 0 (omega arith))) (go 1 (omega arith), omega (arith, most 1 (omega arith)))
    (go 2 (omega arith), omega (arith, most 2 (omega arith))) (go 3 (omega arith), omega (arith, most 3 (omega arith))) in
    record {
      ends = put.0;
      count = omega (arith, put.1, c.steps.invariant.count);
      less = omega (arith, put.1, c.least_left-count.ensures.some);
      before = λ k h. put_before c.args.chains.now (slice_index p 0) (slice_index p 1) (slice_index p 2) (slice_index p 3) k
          (chain_at lanes 0) (chain_at lanes 1) (chain_at lanes 2) (chain_at lanes 3) going.first going.second going.third h;
    }
