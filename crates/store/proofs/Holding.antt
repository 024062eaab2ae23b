-- The same rows are held by the same tables.
use Rattle.std.proofs.Common.{List, subst₂}
use Rattle.sqlite.specs.Order.{Row}
use Rattle.sqlite.specs.State.{State}
use Rattle.sqlite_trees.specs.Tree.{Trees}
use Rattle.table_rows.specs.Rows.{root2_cells, current_cells, shelf_cells, blob_cells}
use Rattle.sql_tables.specs.Rows.{AreRows}
use Rattle.table_rows.specs.Schema.{held}
use Rattle.table_rows.specs.Tables.{AreSame, HoldsTables, HoldsWhole, IsStore, root_row, current_rows, shelf_row, blob_row}
use Rattle.repository_rows.specs.Contents.{Contents}
use Rattle.store.proofs.SameRows.{SameItems, same_map}

rows_as : (shown : Row → Row) (rows cells others : List Row) → SameItems cells others → AreRows shown rows cells → AreRows shown rows others
rows_as shown rows cells others same are = record {
  keyed = are.keyed;
  numbered = are.numbered;
  sound = λ x h. (same (shown x)).0 (are.sound x h);
  complete = λ c h. are.complete c ((same c).1 h);
}

pub holds_as : (trees : Trees) (t u : Contents) → AreSame t u → HoldsTables trees t → HoldsTables trees u
holds_as trees t u same holds = record {
  root = holds.root;
  current = subst₂ (λ a b. AreRows current_cells (trees 1) (current_rows a b)) same.timestamp same.snapshot holds.current;
  shelf = rows_as shelf_cells (trees 3) _ _ (same_map shelf_row t.shelf u.shelf same.shelf) holds.shelf;
  blob = rows_as blob_cells (trees 5) _ _ (same_map blob_row t.blobs u.blobs same.blobs) holds.blob;
  version = holds.version;
  root2 = rows_as root2_cells (trees 8) _ _ (same_map root_row t.roots u.roots same.roots) holds.root2;
}

pub whole_as : (trees : Trees) (t u : Contents) → AreSame t u → HoldsWhole trees t → HoldsWhole trees u
whole_as trees t u same (db, is, sound, six, holds) = (db, is, sound, six, holds_as (held db.schema db.trees) t u same holds)

pub store_as : (s : State) (t u : Contents) → AreSame t u → IsStore s t → IsStore s u
store_as s t u same is = record { is_open = is.is_open; schema = is.schema; settled = is.settled; holds = holds_as (held s.now.schema s.now.trees) t u same is.holds }
