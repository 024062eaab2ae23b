use Rattle.std.proofs.Common.{length, map}
use Rattle.std.specs.Prelude.{◌↔◌}
use Rattle.metadata.specs.FileViews.{root_file}
use Rattle.trust_rules.specs.steps.Loading.{FollowOn}
use Rattle.state_parts.proofs.loading.follow_on.Given as goal

abbrev pub invariant-roots : goal.invariant-roots
invariant-roots l = (FollowOn (root_file l.old) (map root_file l.rest)) ↔ (FollowOn (root_file l.first) (map root_file l.later))

abbrev pub decreases-roots : goal.decreases-roots
decreases-roots l = length l.rest
