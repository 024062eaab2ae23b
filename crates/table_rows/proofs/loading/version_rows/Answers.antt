use Rattle.std.proofs.Common.{[]}
use Rattle.sqlite.specs.Held.{state}
use Rattle.sql_tables.proofs.Queries.{read_quietly}
use Rattle.table_rows.specs.Rows.{version_cells}
use Rattle.sql_tables.specs.Described.{followed}
use Rattle.sql_tables.proofs.Shapes.{none_behind}
use Rattle.table_rows.specs.Schema.{five}
use Rattle.table_rows.proofs.Selects.{reads_version}
use Rattle.table_rows.proofs.Looking.{on_fault}
use Rattle.table_rows.proofs.loading.version_rows.Goals as goal

pub returns-clause-rows : goal.returns-clause-rows
returns-clause-rows g c = let it = c.in_ok-take_rows.ensures.rows c.new.ensures in (it.0, it.2, it.1, λ clean has. it.3 clean (followed five has.0) 7 version_cells [] (reads_version has.0) has.1)

pub returns-clause-read_only : goal.returns-clause-read_only
returns-clause-read_only g c = record {
  unchanged = λ clean has. c.in_ok-take_rows.ensures.unchanged clean (followed five has.0) 7 version_cells [] (reads_version has.0) has.1 c.new.ensures;
  mode = c.take_rows.ensures.mode;
  survives = read_quietly (reads_version none_behind) (state g.S.Store c.args.conn.now) (state g.S.Store c.take_rows.new.conn) c.take_rows.ensures.survives;
}

pub returns-in_err-take_rows-clause-read_only : goal.returns-in_err-take_rows-clause-read_only
returns-in_err-take_rows-clause-read_only g c = record {
  unchanged = λ _ _. on_fault _ _ c.from_residual.result c.from_residual.ensures.1;
  mode = c.take_rows.ensures.mode;
  survives = read_quietly (reads_version none_behind) (state g.S.Store c.args.conn.now) (state g.S.Store c.take_rows.new.conn) c.take_rows.ensures.survives;
}
