use Rattle.std.proofs.Common.{arith}
use Rattle.sqlite.specs.Held.{state}
use Rattle.sqlite.specs.State.{HasCleanDisk}
use Rattle.repository_tables.specs.steps.Writing.{cells_of}
use Rattle.repository_tables.proofs.writing.empty.Goals as goal

pub returns-clause-wrote : goal.returns-clause-wrote
returns-clause-wrote g c clean t is =
    let early : HasCleanDisk (state g.S.Store c.empty_current.new.tx.conn.now) = omega (arith, clean, c.empty_shelf.ensures.uncommitted.survives.clean) in
    c.empty_shelf.ensures.wrote clean _ (c.in_ok-empty_current.ensures.wrote early (cells_of t) is)
