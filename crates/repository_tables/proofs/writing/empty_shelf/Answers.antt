use Rattle.sqlite.specs.Held.{state}
use Rattle.repository_tables.proofs.Statements.{empties_shelf}
use Rattle.repository_tables.proofs.writing.empty_shelf.Goals as goal

pub returns-clause-wrote : goal.returns-clause-wrote
returns-clause-wrote g c clean cells is =
    empties_shelf (state g.S.Store c.args.tx.now.conn.now) (state g.S.Store c.execute.new.self.conn.now) c.in_ok-execute.field-0 cells is (c.in_ok-execute.ensures.runs clean is.tables.inside)
