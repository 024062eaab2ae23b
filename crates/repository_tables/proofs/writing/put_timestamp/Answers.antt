use Rattle.std.proofs.Common.{arith}
use Rattle.sqlite.specs.Held.{state}
use Rattle.sqlite.specs.State.{HasCleanDisk}
use Rattle.repository_tables.specs.steps.Writing.{cells_of}
use Rattle.repository_tables.proofs.Changes.{new_timestamp}
use Rattle.sql_tables.proofs.Calls.{OnOk_then}
use Rattle.repository_tables.proofs.writing.put_timestamp.Goals as goal

pub returns-clause-wrote : goal.returns-clause-wrote
returns-clause-wrote g c clean t is =
    let new = state g.S.Store c.add_slot.new.tx.conn.now in
    let early : HasCleanDisk (state g.S.Store c.drop_slot.new.tx.conn.now) = omega (arith, clean, c.add_slot.ensures.uncommitted.survives.clean) in
    OnOk_then c.add_slot.result (c.add_slot.ensures.wrote clean _ (c.in_ok-drop_slot.ensures.wrote early (cells_of t) is)) (new_timestamp new t (c.args.version, c.args.bytes.now))
