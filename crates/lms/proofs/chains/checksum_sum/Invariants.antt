use Rattle.std.proofs.Common.{◌≡◌, ◌+◌, ◌-◌, ◌*◌, ◌≤◌, sum, map}
use Rattle.std.specs.List.{range_with_len}
use Rattle.lms.specs.Parameters.{width, chain_end}
use Rattle.lms.specs.Chains.{coef, checksum_sum}
use Rattle.lms.proofs.chains.checksum_sum.Given as goal

abbrev pub invariant-loop-i : goal.invariant-loop-i
invariant-loop-i l = record {
  value : l.sum + sum (map (λ i. chain_end l.ots - coef l.hash i (width l.ots)) (range_with_len l.i (l.count - l.i))) ≡ checksum_sum l.ots l.hash;
  bound : l.sum ≤ l.i * chain_end l.ots;
}
