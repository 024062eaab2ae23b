-- What the tables hold inside the transaction that brings them to schema 2, cell by cell.
use Rattle.std.specs.Prelude.{ℕ, List, [], ◌∷◌, ◌++◌, map, IsTrue}
use Rattle.sqlite.specs.Effect.{IsDatabase}
use Rattle.sqlite.specs.State.{State}
use Rattle.sqlite_trees.specs.Tree.{Trees}
use Rattle.sql_tables.specs.Rows.{AreRows}
use Rattle.repository_rows.specs.Contents.{Contents}
use Rattle.table_rows.specs.Rows.{root_cells, root2_cells, current_cells, shelf_cells, blob_cells, version_cells}
use Rattle.table_rows.specs.Schema.{held, HasSome}
use Rattle.table_rows.specs.Tables.{first_row, root_row, version_row}
use Rattle.repository_tables.specs.steps.Writing.{Cells, cells_of}

-- the trees of the six tables hold these cells, as sets
pub record HoldsCells (trees : Trees) (c : Cells) : Type 0 where
  pub root : AreRows root_cells (trees 0) c.root
  pub current : AreRows current_cells (trees 1) c.current
  pub shelf : AreRows shelf_cells (trees 3) c.shelf
  pub blob : AreRows blob_cells (trees 5) c.blob
  pub version : AreRows version_cells (trees 7) c.version
  pub root2 : AreRows root2_cells (trees 8) c.root2

-- the transaction has begun, and `root2` may be absent
pub record IsEarly (count : ℕ) (s : State) (c : Cells) : Type 0 where
  pub is_open : IsTrue s.is_open
  pub inside : IsTrue s.in_transaction
  pub sound : IsDatabase s.now
  pub some : HasSome count s.now.schema
  pub holds : HoldsCells (held s.now.schema s.now.trees) c

-- no row at all, not even in `schema`
abbrev pub bare_cells : Cells
bare_cells = record { root = []; current = []; shelf = []; blob = []; version = []; root2 = [] }

-- under schema 1
abbrev pub first_cells : Contents → Cells
first_cells t = record (cells_of t) { root = map first_row t.roots; version = version_row 1 ∷ []; root2 = [] }

-- the rows of schema 2 in the place of those of schema 1, with these roots after those of `root2`
abbrev pub brought : Cells → List (ℕ × (ℕ × List ℕ)) → Cells
brought c roots = record c { root = []; version = version_row 2 ∷ []; root2 = c.root2 ++ map root_row roots }
