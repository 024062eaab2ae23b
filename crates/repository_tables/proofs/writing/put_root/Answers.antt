use Rattle.sqlite.specs.Held.{state}
use Rattle.repository_tables.specs.steps.Writing.{cells_of}
use Rattle.repository_tables.proofs.Statements.{adds_root}
use Rattle.repository_tables.proofs.Changes.{grown_root}
use Rattle.repository_tables.proofs.writing.put_root.Goals as goal

pub returns-clause-wrote : goal.returns-clause-wrote
returns-clause-wrote g c clean t is =
    let new = state g.S.Store c.execute.new.self.conn.now in
    grown_root new t (c.args.version, (c.args.profile, c.args.bytes.now))
    (adds_root (state g.S.Store c.args.tx.now.conn.now) new c.args.version c.args.profile c.args.bytes.now c.in_ok-execute.field-0 (cells_of t) is (rw (c.params-to_sql.ensures, c.params-to_sql-2.ensures, c.params-to_sql-3.ensures) at (c.in_ok-execute.ensures.runs clean is.tables.inside)))
