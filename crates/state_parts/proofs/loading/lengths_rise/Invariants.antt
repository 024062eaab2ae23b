use Rattle.std.proofs.Common.{◌≡◌, length}
use Rattle.delegations.specs.Delegation.{before}
use Rattle.delegations.specs.steps.Rising.{rises}
use Rattle.state_parts.specs.Views.{length_views}
use Rattle.state_parts.proofs.loading.lengths_rise.Given as goal

abbrev pub invariant-lengths : goal.invariant-lengths
invariant-lengths l = rises before (length_views l.rest) ≡ rises before (length_views l.lengths)

abbrev pub decreases-lengths : goal.decreases-lengths
decreases-lengths l = length l.rest
