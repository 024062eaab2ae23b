use Rattle.std.proofs.Common.{◌≡◌, length}
use Rattle.delegations.specs.Delegation.{before}
use Rattle.delegations.specs.steps.Rising.{rises}
use Rattle.state_parts.specs.Views.{blob_views}
use Rattle.state_parts.proofs.loading.blobs_rise.Given as goal

abbrev pub invariant-blobs : goal.invariant-blobs
invariant-blobs l = rises before (blob_views l.rest) ≡ rises before (blob_views l.blobs)

abbrev pub decreases-blobs : goal.decreases-blobs
decreases-blobs l = length l.rest
