use Rattle.sqlite.specs.Held.{state}
use Rattle.sql_tables.proofs.Queries.{read_rows, read_same, read_quietly}
use Rattle.leaf_book.specs.Schema.{no_schema}
use Rattle.leaf_book.proofs.Texts.{reads_leaf}
use Rattle.leaf_book.proofs.loading.leaf_rows.Goals as goal

pub returns-clause-rows : goal.returns-clause-rows
returns-clause-rows g c clean has = read_rows (reads_leaf has.0) (state g.S.Store c.args.conn.now) (state g.S.Store c.query_all.new.self) c.in_ok-query_all.field-0.items has.1 (c.in_ok-query_all.ensures.ok clean)

pub returns-clause-unchanged : goal.returns-clause-unchanged
returns-clause-unchanged g c clean has = read_same (reads_leaf has.0) (state g.S.Store c.args.conn.now) (state g.S.Store c.query_all.new.self) c.in_ok-query_all.field-0.items has.1 (c.in_ok-query_all.ensures.ok clean)

pub returns-clause-survives : goal.returns-clause-survives
returns-clause-survives g c = read_quietly (reads_leaf no_schema) (state g.S.Store c.args.conn.now) (state g.S.Store c.query_all.new.self) c.query_all.ensures.survives

pub returns-in_err-query_all-clause-survives : goal.returns-in_err-query_all-clause-survives
returns-in_err-query_all-clause-survives g c = read_quietly (reads_leaf no_schema) (state g.S.Store c.args.conn.now) (state g.S.Store c.query_all.new.self) c.query_all.ensures.survives
