use Rattle.repository_tables.specs.declared.change.Change.TheVariants.{Emptied}
use Rattle.store.proofs.Appending.{after_more}
use Rattle.store.proofs.changes.empty_if.Goals as goal

pub returns-in_ok-push : goal.returns-in_ok-push
returns-in_ok-push c t = rw (c.in_ok-push.ensures.items, c.if-emptied.true) (after_more c.args.changes.now.items Emptied t)
