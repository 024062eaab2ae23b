use Rattle.std.proofs.Common.{Err, ap, refl, subst}
use Rattle.sqlite.specs.Held.{state}
use Rattle.sql_tables.proofs.Gathering.{handed_on}
use Rattle.sql_tables.proofs.NumberLemmas.{numbered_by}
use Rattle.sql_tables.specs.Loading.{AreLoaded, rises, with_rowid}
use Rattle.std.proofs.Common.{◌∷◌, []}
use Rattle.table_rows.specs.Schema.{held}
use Rattle.table_rows.specs.Rows.{blob_cells}
use Rattle.table_rows.proofs.Beginnings.{blob_held, some_five}
use Rattle.table_rows.proofs.ItemLemmas.{holds_as, late_contents, unbegun, items_are, items_read, rows_read, damaged_items, all_sorted}
use Rattle.table_rows.proofs.Singles.{read_single}
use Rattle.table_rows.proofs.asking.read_tables.Goals as goal

pub returns-clause-read : goal.returns-clause-read
returns-clause-read g c =
    let old = state g.S.Store c.args.conn.now in
    let it = c.in_ok-taken.ensures.rows in
    let told = c.in_ok-rows_of.ensures in
    let m = c.in_ok-rows_of.field-0.0.0 in
    let lengths = c.in_ok-rows_of.field-0.0.1.items in
    let is_first = c.in_ok-rows_of.field-0.2 in
    let items = told.read it.0 it.2 in (
      rows_read is_first it.0 m lengths items,
      items_read is_first it.0 m lengths items,
      λ clean some live.
          let trees = held old.now.schema old.now.trees in
          let rows = it.3 clean some in
          let has = some_five c.args.count old.now.schema some in
          let sound = (live (c.in_ok-taken.ensures.read_only.unchanged clean some).0.was_open).0 in
          let blob = subst (λ r. AreLoaded (with_rowid blob_cells) (rises ∷ []) r it.0.blob) (blob_held old.now.schema old.now.trees has) rows.blob in
          let ids = numbered_by (with_rowid blob_cells) 2 (λ r. refl) _ _ blob.once it.1.blob in
          let are = items_are is_first it.0 m lengths items (read_single old.now _ it.0.blob sound has ids blob) in (
            λ flag. holds_as is_first trees it.0 (rows_read is_first it.0 m lengths items) it.1 rows are (told.told it.0 it.2) (told.some it.0 it.2 flag),
            λ flag.
                let none = told.none it.0 it.2 flag in
                unbegun trees it.0 (rows_read is_first it.0 m lengths items) rows (late_contents is_first it.0 _ none.1 are) none.0,
          ),
    )

pub returns-in_err-rows_of-clause-damaged : goal.returns-in_err-rows_of-clause-damaged
returns-in_err-rows_of-clause-damaged g c clean some is t fit right stands =
    let db = (state g.S.Store c.args.conn.now).now in
    let trees = held db.schema db.trees in
    let it = c.in_ok-taken.ensures.rows in
    let rows = it.3 clean some in
    damaged_items trees it.0 rows (c.in_err-rows_of.ensures.damaged it.0 it.2 (ap Err (handed_on c.from_residual-in_err-rows_of.result c.from_residual-in_err-rows_of.ensures.1 is)) (all_sorted trees it.0 rows)) t fit right stands
