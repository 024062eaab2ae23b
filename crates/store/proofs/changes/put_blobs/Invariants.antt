use Rattle.std.proofs.Common.{◌≡◌, length}
use Rattle.machine.specs.PartViews.{blob_views}
use Rattle.repository_tables.specs.Changes.{after_all}
use Rattle.repository_rows.specs.Contents.{Contents}
use Rattle.store.specs.steps.Changed.{more_blobs}
use Rattle.store.proofs.changes.put_blobs.Given as goal

abbrev pub invariant-blobs : goal.invariant-blobs
invariant-blobs l = (t : Contents) → more_blobs (blob_views l.rest) (after_all l.changes.items t) ≡ more_blobs (blob_views l.fn.blobs) (after_all l.initial.changes.items t)

abbrev pub decreases-blobs : goal.decreases-blobs
decreases-blobs l = length l.rest
