use Rattle.sqlite.specs.Held.{state}
use Rattle.sql_tables.proofs.MakingLemmas.{makes, makes_sound}
use Rattle.sql_tables.proofs.making.make.Goals as goal

pub returns-clause-wrote : goal.returns-clause-wrote
returns-clause-wrote g c clean before after m rows lacks is =
    makes before after c.args.sql.now rows (state g.S.Store c.args.tx.now.conn.now) (state g.S.Store c.execute.new.self.conn.now) c.in_ok-execute.field-0 m lacks is (c.in_ok-execute.ensures.runs clean is.inside)

pub returns-clause-sound : goal.returns-clause-sound
returns-clause-sound g c clean before after m rows is =
    makes_sound before after c.args.sql.now rows (state g.S.Store c.args.tx.now.conn.now) (state g.S.Store c.execute.new.self.conn.now) c.in_ok-execute.field-0 m is (c.in_ok-execute.ensures.runs clean is.inside)
