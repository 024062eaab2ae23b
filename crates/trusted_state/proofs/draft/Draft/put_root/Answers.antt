use Rattle.metadata.specs.FileViews.{root_file}
use Rattle.trust_rules.proofs.MoreRootsAndRows.{one_more_root}
use Rattle.trusted_state.proofs.draft.Draft.put_root.Goals as goal

pub returns-then-not-keeps-clause-view : goal.returns-then-not-keeps-clause-view
returns-then-not-keeps-clause-view c =
    rw (c.in_ok-push.ensures.items, c.if-not-keeps.true, c.clear.ensures.items)
    (one_more_root root_file _ _ _ _ _ c.args.self.now.changes.roots.items c.args.file)

pub returns-else-not-keeps-clause-view : goal.returns-else-not-keeps-clause-view
returns-else-not-keeps-clause-view c =
    rw (c.in_ok-push.ensures.items, c.if-not-keeps.false)
    (one_more_root root_file _ _ _ _ _ c.args.self.now.changes.roots.items c.args.file)
