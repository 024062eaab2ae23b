use Rattle.std.proofs.Common.{◌≡◌, ◌∙◌, List, ap, subst}
use Rattle.metadata.specs.File.{Bytes}
use Rattle.machine.specs.PartViews.{blob_views}
use Rattle.repository_tables.specs.Changes.{after_all}
use Rattle.store.specs.steps.Changed.{more_blobs}
use Rattle.store.proofs.Appending.{after_more, blobs_then}
use Rattle.store.proofs.changes.put_blobs.Goals as goal

pub blobs-preserved : goal.blobs-preserved
blobs-preserved c t =
    let bs = blob_views c.in-Some.later.now in
    let before = after_all c.blobs.changes.items t in
    rw (c.in_ok-push.ensures.items)
    (ap (more_blobs bs) (after_more c.blobs.changes.items _ t)
    ∙ (rw (c.deref.ensures.value) (blobs_then (c.in-Some.blob.now.digest.0, c.in-Some.blob.now.bytes.items) bs before)
    ∙ subst (λ (l : List (Bytes × Bytes)). more_blobs l before ≡ more_blobs (blob_views c.args.blobs.now) (after_all c.args.changes.now.items t))
    (ap blob_views c.in-Some.ensures.cases.0) (c.blobs.invariant t)))
