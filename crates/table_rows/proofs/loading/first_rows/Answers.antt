use Rattle.std.proofs.Common.{[], ◌∷◌}
use Rattle.sqlite.specs.Held.{state}
use Rattle.sql_tables.specs.Loading.{rises}
use Rattle.sql_tables.proofs.Queries.{read_quietly}
use Rattle.table_rows.specs.Rows.{root_cells}
use Rattle.sql_tables.specs.Described.{followed}
use Rattle.sql_tables.proofs.Shapes.{none_behind}
use Rattle.table_rows.specs.Schema.{five}
use Rattle.table_rows.proofs.Selects.{reads_first}
use Rattle.table_rows.proofs.Looking.{on_fault}
use Rattle.table_rows.proofs.loading.first_rows.Goals as goal

pub returns-clause-rows : goal.returns-clause-rows
returns-clause-rows g c = let it = c.in_ok-gather.ensures.rows in (it.0, it.1, it.2, λ clean has. it.3 clean (followed five has.0) 0 root_cells (rises ∷ []) (reads_first has.0) has.1)

pub returns-clause-read_only : goal.returns-clause-read_only
returns-clause-read_only g c = record {
  unchanged = λ clean has. c.in_ok-gather.ensures.unchanged clean (followed five has.0) 0 root_cells (rises ∷ []) (reads_first has.0) has.1;
  mode = c.gather.ensures.mode;
  survives = read_quietly (reads_first none_behind) (state g.S.Store c.args.conn.now) (state g.S.Store c.gather.new.conn) c.gather.ensures.survives;
}

pub returns-in_err-gather-clause-read_only : goal.returns-in_err-gather-clause-read_only
returns-in_err-gather-clause-read_only g c = record {
  unchanged = λ _ _. on_fault _ _ c.from_residual.result c.from_residual.ensures.1;
  mode = c.gather.ensures.mode;
  survives = read_quietly (reads_first none_behind) (state g.S.Store c.args.conn.now) (state g.S.Store c.gather.new.conn) c.gather.ensures.survives;
}
