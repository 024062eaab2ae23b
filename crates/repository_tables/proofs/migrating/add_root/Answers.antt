use Rattle.sqlite.specs.Held.{state}
use Rattle.repository_tables.proofs.Migrated.{adds_first}
use Rattle.repository_tables.proofs.migrating.add_root.Goals as goal

pub returns-clause-wrote : goal.returns-clause-wrote
returns-clause-wrote g c clean cells is =
    adds_first (state g.S.Store c.args.tx.now.conn.now) (state g.S.Store c.execute.new.self.conn.now) c.args.version c.args.bytes.now c.in_ok-execute.field-0 cells is
    (rw (c.params-to_sql.ensures, c.params-to_sql-2.ensures) at (c.in_ok-execute.ensures.runs clean is.tables.inside))
