-- What the trees hold, cell by cell.
use Rattle.std.proofs.Common.{◌<◌, ℕ, zero, suc, [], arith, length, subst, sym}
use Rattle.sqlite.specs.Schema.{Schema}
use Rattle.sqlite_trees.specs.Tree.{Trees}
use Rattle.repository_rows.specs.Contents.{Contents}
use Rattle.sql_tables.specs.Described.{at_place, tree_from}
use Rattle.sql_tables.specs.Inside.{shown_of, cells_at}
use Rattle.sql_tables.specs.Rows.{AreRows}
use Rattle.sql_tables.proofs.MakingLemmas.{no_rows}
use Rattle.table_rows.specs.Rows.{root_cells, root2_cells, current_cells, shelf_cells, blob_cells, version_cells}
use Rattle.table_rows.specs.Schema.{HasFive, five, held}
use Rattle.table_rows.specs.Tables.{AreBare, HoldsFirst, HoldsTables}
use Rattle.sqlite.specs.State.{State}
use Rattle.repository_tables.specs.steps.Writing.{Cells, IsInside, cells_of, listed}
use Rattle.table_rows.proofs.Beginnings.{blob_held, current_held, none_held, root_held, shelf_held, version_held}
use Rattle.repository_tables.specs.steps.Migrating.{HoldsCells, bare_cells, first_cells}

pub cells_second : (trees : Trees) (t : Contents) → HoldsTables trees t → HoldsCells trees (cells_of t)
cells_second trees t h = record { root = h.root; current = h.current; shelf = h.shelf; blob = h.blob; version = h.version; root2 = h.root2 }

pub cells_first : (trees : Trees) (t : Contents) → HoldsFirst trees t → HoldsCells trees (first_cells t)
cells_first trees t h = record { root = h.root; current = h.current; shelf = h.shelf; blob = h.blob; version = h.version; root2 = h.root2 }

pub cells_bare : (trees : Trees) → AreBare trees → HoldsCells trees bare_cells
cells_bare trees bare = record {
  root = subst (λ r. AreRows root_cells r []) (sym bare.0) (no_rows root_cells);
  current = subst (λ r. AreRows current_cells r []) (sym bare.1.0) (no_rows current_cells);
  shelf = subst (λ r. AreRows shelf_cells r []) (sym bare.1.1.0) (no_rows shelf_cells);
  blob = subst (λ r. AreRows blob_cells r []) (sym bare.1.1.1.0) (no_rows blob_cells);
  version = subst (λ r. AreRows version_cells r []) (sym bare.1.1.1.1.0) (no_rows version_cells);
  root2 = subst (λ r. AreRows root2_cells r []) (sym bare.1.1.1.1.1.0) (no_rows root2_cells);
}

-- by the places of the five
pub rows_of_cells : (rows : Trees) (c : Cells) → HoldsCells rows c → (n : ℕ) → n < length five → AreRows (shown_of (at_place five n)) (rows (tree_from 0 five n)) (cells_at (listed c) n)
rows_of_cells rows c holds zero few = holds.root
rows_of_cells rows c holds (suc zero) few = holds.current
rows_of_cells rows c holds (suc (suc zero)) few = holds.shelf
rows_of_cells rows c holds (suc (suc (suc zero))) few = holds.blob
rows_of_cells rows c holds (suc (suc (suc (suc zero)))) few = holds.version
rows_of_cells rows c holds (suc (suc (suc (suc (suc n))))) few = absurd (omega (arith, few))

-- the trees of the five are their own
pub five_of_cells : (schema : Schema) (trees : Trees) (c : Cells) → HasFive schema → HoldsCells (held schema trees) c → (n : ℕ) → n < length five → AreRows (shown_of (at_place five n)) (trees (tree_from 0 five n)) (cells_at (listed c) n)
five_of_cells schema trees c has holds zero few = subst (λ r. AreRows root_cells r c.root) (root_held schema trees has) holds.root
five_of_cells schema trees c has holds (suc zero) few = subst (λ r. AreRows current_cells r c.current) (current_held schema trees has) holds.current
five_of_cells schema trees c has holds (suc (suc zero)) few = subst (λ r. AreRows shelf_cells r c.shelf) (shelf_held schema trees has) holds.shelf
five_of_cells schema trees c has holds (suc (suc (suc zero))) few = subst (λ r. AreRows blob_cells r c.blob) (blob_held schema trees has) holds.blob
five_of_cells schema trees c has holds (suc (suc (suc (suc zero)))) few = subst (λ r. AreRows version_cells r c.version) (version_held schema trees has) holds.version
five_of_cells schema trees c has holds (suc (suc (suc (suc (suc n))))) few = absurd (omega (arith, few))

-- and back
pub cells_of_five : (s : State) (c : Cells) → IsInside s c → HoldsCells (held s.now.schema s.now.trees) c
cells_of_five s c is =
    let has = is.six.0 in
    let trees = s.now.trees in
    record {
      root = subst (λ r. AreRows root_cells r c.root) (sym (root_held s.now.schema trees has)) (is.tables.holds 0 (omega arith));
      current = subst (λ r. AreRows current_cells r c.current) (sym (current_held s.now.schema trees has)) (is.tables.holds 1 (omega arith));
      shelf = subst (λ r. AreRows shelf_cells r c.shelf) (sym (shelf_held s.now.schema trees has)) (is.tables.holds 2 (omega arith));
      blob = subst (λ r. AreRows blob_cells r c.blob) (sym (blob_held s.now.schema trees has)) (is.tables.holds 3 (omega arith));
      version = subst (λ r. AreRows version_cells r c.version) (sym (version_held s.now.schema trees has)) (is.tables.holds 4 (omega arith));
      root2 = is.root2;
    }

-- cells of no row are those of tables that are all empty
pub bare_trees : (s : State) → IsInside s bare_cells → AreBare (held s.now.schema s.now.trees)
bare_trees s is =
    let holds = cells_of_five s bare_cells is in
    (none_held _ holds.root, (none_held _ holds.current, (none_held _ holds.shelf, (none_held _ holds.blob, (none_held _ holds.version, (none_held _ holds.root2, tt))))))
