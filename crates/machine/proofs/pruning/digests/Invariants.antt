use Rattle.std.proofs.Common.{◌≡◌, ◌++◌, length, map}
use Rattle.granting.specs.PartViews.{digest_views, length_views}
use Rattle.machine.proofs.pruning.digests.Given as goal

abbrev pub invariant-blobs : goal.invariant-blobs
invariant-blobs l = digest_views l.digests.items ++ map (λ b. b.0) (length_views l.rest) ≡ map (λ b. b.0) (length_views l.fn.lengths)

abbrev pub decreases-blobs : goal.decreases-blobs
decreases-blobs l = length l.rest
