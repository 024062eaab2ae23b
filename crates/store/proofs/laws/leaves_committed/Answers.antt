use Rattle.std.proofs.Common.{refl}
use Rattle.store.proofs.laws.leaves_committed.Goals as goal

pub returns-clause-left : goal.returns-clause-left
returns-clause-left g c there trees may = g.met.S.Store.settled c.args.conn.now.store trees there may

pub returns-clause-settled : goal.returns-clause-settled
returns-clause-settled g c quiet there = c.is_autocommit.ensures.settled (rw (c.is_autocommit.ensures.value, quiet) refl) there
