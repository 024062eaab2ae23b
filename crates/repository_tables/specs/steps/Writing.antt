-- What the tables hold inside a transaction, cell by cell, and what a statement there makes of it.
use Rattle.std.specs.Prelude.{◌≡◌, List, [], ◌∷◌, map, Result, OnOk}
use Rattle.sqlite.specs.Order.{Row}
use Rattle.sqlite.specs.Effect.{IsDatabase}
use Rattle.sqlite.specs.State.{HasCleanDisk, KeepsCommit, State, Survives}
use Rattle.sqlite.specs.Held.{state}
use Rattle.sqlite.specs.declared.transaction.Transaction.{Transaction}
use Rattle.sqlite_trees.specs.declared.store.Store.{Ghosts}
use Rattle.sql_tables.specs.Rows.{AreRows}
use Rattle.table_rows.specs.Rows.{root2_cells}
use Rattle.table_rows.specs.Schema.{five, root2_rows, HasSix}
use Rattle.sql_tables.specs.Inside as of_list
use Rattle.repository_rows.specs.Contents.{Contents}
use Rattle.table_rows.specs.Tables.{root_row, current_rows, shelf_row, blob_row, version_row}

pub record Cells : Type 0 where
  pub root : List Row
  pub current : List Row
  pub shelf : List Row
  pub blob : List Row
  pub version : List Row
  pub root2 : List Row

-- schema 2, without a row beside that of `schema`
abbrev pub no_cells : Cells
no_cells = record { root = []; current = []; shelf = []; blob = []; version = version_row 2 ∷ []; root2 = [] }

-- under schema 2
abbrev pub cells_of : Contents → Cells
cells_of t = record {
  root = [];
  current = current_rows t.timestamp t.snapshot;
  shelf = map shelf_row t.shelf;
  blob = map blob_row t.blobs;
  version = version_row 2 ∷ [];
  root2 = map root_row t.roots;
}

-- those of the five, by the places of the tables
abbrev pub listed : Cells → List (List Row)
listed c = c.root ∷ c.current ∷ c.shelf ∷ c.blob ∷ c.version ∷ []

-- inside the transaction that changes them
pub record IsInside (s : State) (c : Cells) : Type 0 where
  pub tables : of_list.IsInside five s (listed c)
  pub six : HasSix s.now.schema
  pub root2 : AreRows root2_cells (root2_rows s.now.schema s.now.trees) c.root2
  pub sound : IsDatabase s.now

-- ---- a statement inside the transaction

module _ {S : Type 0} (g : Ghosts S) (old new : Transaction S) where
  -- it commits nothing, whether it answers Ok or a fault
  pub record IsUncommitted : Type 0 where
    pub same_reference : new.conn.ghost_name ≡ old.conn.ghost_name
    pub kept : HasCleanDisk (state g new.conn.now) → KeepsCommit (state g old.conn.now) (state g new.conn.now)
    pub survives : Survives (state g old.conn.now) (state g new.conn.now) (λ _. ⊥)

  -- at Ok the tables hold what this makes of the cells that they held
  abbrev pub ChangesCells : {A E : Type 0} → Result A E → (Cells → Cells) → Type 0
  ChangesCells result made = HasCleanDisk (state g new.conn.now) → (c : Cells) → IsInside (state g old.conn.now) c → OnOk result (IsInside (state g new.conn.now) (made c))

  -- the same of the rows, under schema 2
  abbrev pub ChangesContents : {A E : Type 0} → Result A E → (Contents → Contents) → Type 0
  ChangesContents result made = HasCleanDisk (state g new.conn.now) → (t : Contents) → IsInside (state g old.conn.now) (cells_of t) → OnOk result (IsInside (state g new.conn.now) (cells_of (made t)))
