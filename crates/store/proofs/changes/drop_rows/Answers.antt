use Rattle.std.proofs.Common.{◌≡◌, ◌∙◌, List, ap, subst}
use Rattle.delegations.specs.Rows.{Place}
use Rattle.repository_tables.specs.Changes.{after_all}
use Rattle.store.specs.steps.Changed.{rows_gone}
use Rattle.store.proofs.Appending.{after_more}
use Rattle.store.proofs.changes.drop_rows.Goals as goal

pub rows-preserved : goal.rows-preserved
rows-preserved c t =
    let before = after_all c.rows.changes.items t in
    rw (c.in_ok-push.ensures.items)
    (ap (rows_gone c.in-Some.later.now) (after_more c.rows.changes.items _ t)
    ∙ (rw (c.as_str.ensures.value)
    (subst (λ (l : List Place). rows_gone l before ≡ rows_gone c.args.gone.now (after_all c.args.changes.now.items t)) c.in-Some.ensures.cases.0 (c.rows.invariant t))))
