use Rattle.std.proofs.Common.{◌≡◌, ◌∙◌, List, ap, subst}
use Rattle.metadata.specs.File.{Bytes}
use Rattle.delegations.specs.Rows.{Place}
use Rattle.delegations.specs.Views.{row_views}
use Rattle.trust_rules.specs.Contents.{shelf_rows}
use Rattle.repository_tables.specs.Changes.{after_all}
use Rattle.store.specs.steps.Changed.{more_rows}
use Rattle.store.proofs.Appending.{after_more, rows_then}
use Rattle.store.proofs.changes.put_rows.Goals as goal

pub rows-preserved : goal.rows-preserved
rows-preserved c t =
    let rs = shelf_rows (row_views c.in-Some.later.now) in
    let before = after_all c.rows.changes.items t in
    rw (c.in_ok-push.ensures.items)
    (ap (more_rows rs) (after_more c.rows.changes.items _ t)
    ∙ (rw (c.as_str.ensures.value, c.bytes.ensures) (rows_then ((c.in-Some.row.now.role, c.in-Some.row.now.version), c.in-Some.row.now.file.source.bytes) rs before)
    ∙ subst (λ (l : List (Place × Bytes)). more_rows l before ≡ more_rows (shelf_rows (row_views c.args.rows.now)) (after_all c.args.changes.now.items t))
    (ap (λ l. shelf_rows (row_views l)) c.in-Some.ensures.cases.0) (c.rows.invariant t)))
