use Rattle.store.proofs.Appending.{after_more}
use Rattle.store.proofs.changes.put_snapshot.Goals as goal

pub returns : goal.returns
returns c t = rw (c.in_ok-push.ensures.items, c.in-Some.is, ← c.bytes.ensures) (after_more c.args.changes.now.items _ t)
