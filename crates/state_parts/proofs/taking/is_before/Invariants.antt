use Rattle.std.proofs.Common.{◌≡◌, length}
use Rattle.delegations.specs.Delegation.{before}
use Rattle.state_parts.proofs.taking.is_before.Given as goal

abbrev pub invariant-bytes : goal.invariant-bytes
invariant-bytes l = before l.left l.right ≡ before l.a l.b

abbrev pub decreases-bytes : goal.decreases-bytes
decreases-bytes l = length l.right
