use Rattle.std.proofs.Common.{[]}
use Rattle.sqlite.specs.Held.{state}
use Rattle.sql_tables.proofs.Queries.{read_quietly}
use Rattle.table_rows.specs.Rows.{version_cells}
use Rattle.sql_tables.specs.Described.{followed}
use Rattle.sql_tables.proofs.Shapes.{none_behind}
use Rattle.table_rows.specs.Schema.{five}
use Rattle.table_rows.proofs.Selects.{reads_version}
use Rattle.table_rows.proofs.Beginnings.{six_five}
use Rattle.table_rows.proofs.Looking.{looked}
use Rattle.table_rows.proofs.asking.check_open.Goals as goal

pub returns-clause-kept : goal.returns-clause-kept
returns-clause-kept g c clean stays t is = looked (state g.S.Store c.args.conn.now) (state g.S.Store c.check_open.new.conn) t stays (c.check_open.ensures.kept clean (followed five (six_five _ is.schema).0) 7 version_cells [] (reads_version (six_five _ is.schema).0) (six_five _ is.schema).1) is

pub returns-clause-survives : goal.returns-clause-survives
returns-clause-survives g c = read_quietly (reads_version none_behind) (state g.S.Store c.args.conn.now) (state g.S.Store c.check_open.new.conn) c.check_open.ensures.survives

pub returns-in_err-check_open-clause-kept : goal.returns-in_err-check_open-clause-kept
returns-in_err-check_open-clause-kept g c clean stays t is = looked (state g.S.Store c.args.conn.now) (state g.S.Store c.check_open.new.conn) t stays (c.check_open.ensures.kept clean (followed five (six_five _ is.schema).0) 7 version_cells [] (reads_version (six_five _ is.schema).0) (six_five _ is.schema).1) is

pub returns-in_err-check_open-clause-survives : goal.returns-in_err-check_open-clause-survives
returns-in_err-check_open-clause-survives g c = read_quietly (reads_version none_behind) (state g.S.Store c.args.conn.now) (state g.S.Store c.check_open.new.conn) c.check_open.ensures.survives
