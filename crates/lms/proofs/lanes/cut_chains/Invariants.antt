use Rattle.std.proofs.Common.{◌≡◌, length, map, take}
use Rattle.std.specs.List.{range_with_len}
use Rattle.lms.specs.steps.Lanes.{cut_chain}
use Rattle.lms.proofs.lanes.cut_chains.Given as goal

abbrev pub invariant-loop-i : goal.invariant-loop-i
invariant-loop-i l = record {
  len : length l.chains ≡ 265;
  done : take l.i l.chains ≡ map (cut_chain l.fn.ots l.hash l.elements) (range_with_len 0 l.i);
}
