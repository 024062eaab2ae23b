use Rattle.std.proofs.Common.{◌≡◌, length, map, take}
use Rattle.std.specs.List.{range_with_len}
use Rattle.lms.specs.Chains.{coefficient}
use Rattle.lms.specs.steps.Lanes.{seed_chain}
use Rattle.lms.proofs.signing.element_chains.Given as goal

abbrev pub invariant-loop-i : goal.invariant-loop-i
invariant-loop-i l = record {
  len : length l.chains ≡ 265;
  done : take l.i l.chains ≡ map (λ i. seed_chain l.seed.identifier l.seed.secret l.q (coefficient l.ots l.hash i) i) (range_with_len 0 l.i);
}
