use Rattle.std.proofs.Common.{◌≡◌, length}
use Rattle.machine.specs.PartViews.{digest_views}
use Rattle.repository_tables.specs.Changes.{after_all}
use Rattle.repository_rows.specs.Contents.{Contents}
use Rattle.store.specs.steps.Changed.{blobs_gone}
use Rattle.store.proofs.changes.drop_blobs.Given as goal

abbrev pub invariant-blobs : goal.invariant-blobs
invariant-blobs l = (t : Contents) → blobs_gone (digest_views l.rest) (after_all l.changes.items t) ≡ blobs_gone (digest_views l.fn.gone) (after_all l.initial.changes.items t)

abbrev pub decreases-blobs : goal.decreases-blobs
decreases-blobs l = length l.rest
