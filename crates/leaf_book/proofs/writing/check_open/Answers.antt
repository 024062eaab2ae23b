use Rattle.std.proofs.Common.{[]}
use Rattle.sqlite.specs.Held.{state}
use Rattle.sql_tables.specs.Described.{followed}
use Rattle.sql_tables.proofs.Queries.{read_quietly}
use Rattle.leaf_book.specs.Schema.{no_schema, two}
use Rattle.leaf_book.proofs.Statements.{looked}
use Rattle.leaf_book.proofs.Texts.{one_cell, reads_key}
use Rattle.leaf_book.proofs.writing.check_open.Goals as goal

pub returns-clause-kept : goal.returns-clause-kept
returns-clause-kept g c clean stays b is = looked (state g.S.Store c.args.conn.now) (state g.S.Store c.check_open.new.conn) b stays (c.check_open.ensures.kept clean (followed two is.schema.0) 0 one_cell [] (reads_key is.schema.0) is.schema.1) is

pub returns-clause-survives : goal.returns-clause-survives
returns-clause-survives g c = read_quietly (reads_key no_schema) (state g.S.Store c.args.conn.now) (state g.S.Store c.check_open.new.conn) c.check_open.ensures.survives

pub returns-in_err-check_open-clause-kept : goal.returns-in_err-check_open-clause-kept
returns-in_err-check_open-clause-kept g c clean stays b is = looked (state g.S.Store c.args.conn.now) (state g.S.Store c.check_open.new.conn) b stays (c.check_open.ensures.kept clean (followed two is.schema.0) 0 one_cell [] (reads_key is.schema.0) is.schema.1) is

pub returns-in_err-check_open-clause-survives : goal.returns-in_err-check_open-clause-survives
returns-in_err-check_open-clause-survives g c = read_quietly (reads_key no_schema) (state g.S.Store c.args.conn.now) (state g.S.Store c.check_open.new.conn) c.check_open.ensures.survives
