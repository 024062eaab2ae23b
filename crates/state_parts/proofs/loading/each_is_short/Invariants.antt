use Rattle.std.proofs.Common.{length}
use Rattle.std.specs.Prelude.{◌↔◌, ◌≤◌, All}
use Rattle.limits.specs.Limits.{blob_limit}
use Rattle.state_parts.specs.Views.{length_views}
use Rattle.state_parts.proofs.loading.each_is_short.Given as goal

abbrev pub invariant-lengths : goal.invariant-lengths
invariant-lengths l = (All (λ b. b.1 ≤ blob_limit) (length_views l.rest)) ↔ (All (λ b. b.1 ≤ blob_limit) (length_views l.lengths))

abbrev pub decreases-lengths : goal.decreases-lengths
decreases-lengths l = length l.rest
