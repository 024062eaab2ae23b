use Rattle.std.proofs.Common.{◌≡◌, ◌∙◌, List, ap, subst}
use Rattle.path_patterns.specs.declared.Digest.{Digest}
use Rattle.machine.specs.PartViews.{digest_views}
use Rattle.repository_tables.specs.Changes.{after_all}
use Rattle.store.specs.steps.Changed.{blobs_gone}
use Rattle.store.proofs.Appending.{after_more}
use Rattle.store.proofs.changes.drop_blobs.Goals as goal

pub blobs-preserved : goal.blobs-preserved
blobs-preserved c t =
    let before = after_all c.blobs.changes.items t in
    rw (c.in_ok-push.ensures.items)
    (ap (blobs_gone (digest_views c.in-Some.later.now)) (after_more c.blobs.changes.items _ t)
    ∙ subst (λ (l : List Digest). blobs_gone (digest_views l) before ≡ blobs_gone (digest_views c.args.gone.now) (after_all c.args.changes.now.items t)) c.in-Some.ensures.cases.0 (c.blobs.invariant t))
