use Rattle.metadata.specs.FileViews.{targets_file}
use Rattle.trust_rules.proofs.MoreRootsAndRows.{one_more_row}
use Rattle.trusted_state.proofs.draft.Draft.put_row.Goals as goal

pub returns-clause-view : goal.returns-clause-view
returns-clause-view c =
    rw (c.in_ok-push.ensures.items)
    (one_more_row (λ r. ((r.role, r.version), targets_file r.file)) _ _ _ _ _ c.args.self.now.changes.rows.items c.args.row)
