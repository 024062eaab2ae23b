use Rattle.sqlite.specs.Held.{state}
use Rattle.store.proofs.Reopening.{store_whole}
use Rattle.store.proofs.laws.leaves_rows.Goals as goal

pub returns : goal.returns
returns g c t there is trees may = store_whole (state g.S.Store c.args.conn.now) t there c.leaves_committed.ensures.live is trees (c.leaves_committed.ensures.left there trees may)
