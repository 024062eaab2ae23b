use Rattle.std.proofs.Common.{[], ◌∷◌, subst, sym, refl, List}
use Rattle.sqlite.specs.Held.{state}
use Rattle.sqlite.specs.Order.{Row}
use Rattle.sql_tables.specs.Loading.{AreLoaded, rises}
use Rattle.sql_tables.proofs.Queries.{read_quietly}
use Rattle.table_rows.specs.Rows.{root2_cells}
use Rattle.table_rows.proofs.Beginnings.{alone_six, rows_second}
use Rattle.table_rows.proofs.Selecting.{reads_root2}
use Rattle.table_rows.proofs.Looking.{on_fault}
use Rattle.table_rows.proofs.loading.second_rows.Goals as goal

pub returns-clause-rows : goal.returns-clause-rows
returns-clause-rows g c =
    let it = c.in_ok-gather.ensures.rows in
    let old = state g.S.Store c.args.conn.now in (
      it.0,
      it.1,
      it.2,
      λ clean has.
          subst (λ (stored : List Row). AreLoaded root2_cells (rises ∷ []) stored it.0) (sym (rows_second old.now.schema old.now.trees has.1 has.2 has.3))
          (it.3 clean old.now.schema has.2 root2_cells (rises ∷ []) (reads_root2 old.now.schema has.1 has.2 has.3) refl),
    )

pub returns-clause-read_only : goal.returns-clause-read_only
returns-clause-read_only g c = record {
  unchanged = λ clean has. c.in_ok-gather.ensures.unchanged clean (state g.S.Store c.args.conn.now).now.schema has.2 root2_cells (rises ∷ []) (reads_root2 (state g.S.Store c.args.conn.now).now.schema has.1 has.2 has.3) refl;
  mode = c.gather.ensures.mode;
  survives = read_quietly (reads_root2 _ _ _ alone_six.3) (state g.S.Store c.args.conn.now) (state g.S.Store c.gather.new.conn) c.gather.ensures.survives;
}

pub returns-in_err-gather-clause-read_only : goal.returns-in_err-gather-clause-read_only
returns-in_err-gather-clause-read_only g c = record {
  unchanged = λ _ _. on_fault _ _ c.from_residual.result c.from_residual.ensures.1;
  mode = c.gather.ensures.mode;
  survives = read_quietly (reads_root2 _ _ _ alone_six.3) (state g.S.Store c.args.conn.now) (state g.S.Store c.gather.new.conn) c.gather.ensures.survives;
}
