-- What the statements inside a transaction do to the cells of the tables.
use Rattle.std.proofs.Common.{◌≡◌, ℕ, pos, List, [], ◌∷◌, ◌++◌, true, None, Ok, refl, subst, arith}
use Rattle.sqlite_sql.specs.Ops.{unary}
use Rattle.sqlite.specs.declared.types.Value.TheVariants.{Null, Int, Text, Blob}
use Rattle.sqlite.specs.Order.{Row, value_cmp}
use Rattle.sqlite_rules.specs.Edit.{edit_of, next_rowid}
use Rattle.sqlite_rules.specs.declared.error.Rowids.TheVariants.{Chosen}
use Rattle.sqlite_trees.specs.Tree.{Trees}
use Rattle.sqlite.specs.Command.{Command}
use Rattle.sqlite.specs.Effect.{IsDatabase}
use Rattle.sqlite.specs.State.{State, ExecutesInside, Runs}
use Rattle.sqlite.proofs.Callers.{runs_as}
use Rattle.sql_tables.specs.Described.{followed, table_of}
use Rattle.sql_tables.specs.Inside as of_list
use Rattle.table_rows.specs.Schema.{HasFive, five, root2_table}
use Rattle.table_rows.specs.Rows.{current_cells}
use Rattle.table_rows.specs.Tables.{root_row, slot_row, shelf_row}
use Rattle.repository_tables.specs.steps.Writing.{Cells, IsInside, listed}
use Rattle.sql_tables.specs.Writing.{has_text, without_text}
use Rattle.sql_tables.proofs.AnswerLemmas.{passes}
use Rattle.repository_tables.proofs.Beside.{adds_second, delete_stays, insert_stays}
use Rattle.table_rows.proofs.Resolved.{insert_root, insert_root_is, root_values}
use Rattle.repository_tables.proofs.Texts.{two_values, three_values, insert_slot, insert_slot_is, insert_row, insert_row_is, insert_blob, insert_blob_is, delete_slot, delete_slot_is, delete_current, delete_current_is, delete_shelf, delete_shelf_is}
use Rattle.table_rows.proofs.One.{by_text}
use Rattle.sql_tables.proofs.Statements.{and-true, cast_int, cast_null, none_left}
use Rattle.sql_tables.proofs.Editing.{Means, adds, drops}

root_news : (db : Trees) (tree version profile : ℕ) (bytes : List ℕ)
    → (edit_of db (table_of root2_table tree) [] Chosen 0 ((Int (pos version) ∷ Null ∷ Int (pos profile) ∷ Blob bytes ∷ []) ∷ [])).news ≡ (Int (pos version) ∷ Null ∷ Int (pos profile) ∷ Blob bytes ∷ []) ∷ []
unfolding value_cmp unary lib.Ieee.is_nan lib.Ieee.lt
root_news db tree version profile bytes = rw (cast_int (pos version), cast_int (pos profile)) refl

-- ---- what a write leaves is a database, whose trees list its tables

pub sound_after : (sql : List ℕ) (command : Command) → Means five sql command → (old new : State) (params : Row) (count : ℕ) → HasFive old.now.schema
    → ((text : List ℕ) → Runs old new None command text params count → IsDatabase new.now) → ExecutesInside 0 sql params old new (Ok count) → IsDatabase new.now
sound_after sql command means old new params count has sound h =
    let there = means has.0 in
    sound _ (runs_as sql params old new (followed five has.0) has.1 command there.0 there.1 count h.0)

-- ---- INSERT

pub adds_root : (old new : State) (version profile : ℕ) (bytes : List ℕ) (count : ℕ) (c : Cells) → IsInside old c
    → ExecutesInside 0 insert_root (Int (pos version) ∷ Int (pos profile) ∷ Blob bytes ∷ []) old new (Ok count) → IsInside new (record c { root2 = c.root2 ++ root_row (version, (profile, bytes)) ∷ [] })
adds_root old new version profile bytes count c is h =
    adds_second insert_root root_values 4 insert_root_is old new (Int (pos version) ∷ Int (pos profile) ∷ Blob bytes ∷ []) (Int (pos version) ∷ Null ∷ Int (pos profile) ∷ Blob bytes ∷ []) (pos version) count c is
    (λ tree. root_news old.now.trees tree version profile bytes) refl h

pub adds_slot : (old new : State) (slot : List ℕ) (version : ℕ) (bytes : List ℕ) (count : ℕ) (c : Cells) → IsInside old c
    → ExecutesInside 0 insert_slot (Text slot ∷ Int (pos version) ∷ Blob bytes ∷ []) old new (Ok count) → IsInside new (record c { current = c.current ++ slot_row slot (version, bytes) ∷ [] })
adds_slot old new slot version bytes count c is h =
    let cells = Text slot ∷ Int (pos version) ∷ Blob bytes ∷ [] in
    let id = next_rowid (old.now.trees 1) in
    record {
      tables = adds five 1 (omega arith) insert_slot three_values 4 insert_slot_is old new cells (Int id ∷ cells) id count (listed c) is.tables (omega arith) (rw (cast_null, cast_int (pos version)) refl) refl h;
      six = (insert_stays 1 (omega arith) insert_slot three_values 4 insert_slot_is old new _ count c.root2 h (is.six, is.root2)).0;
      root2 = (insert_stays 1 (omega arith) insert_slot three_values 4 insert_slot_is old new _ count c.root2 h (is.six, is.root2)).1;
      sound = sound_after insert_slot _ insert_slot_is old new _ count is.tables.schema (λ text w. w.sound) h;
    }

pub adds_row : (old new : State) (role : List ℕ) (version : ℕ) (bytes : List ℕ) (count : ℕ) (c : Cells) → IsInside old c
    → ExecutesInside 0 insert_row (Text role ∷ Int (pos version) ∷ Blob bytes ∷ []) old new (Ok count) → IsInside new (record c { shelf = c.shelf ++ shelf_row ((role, version), bytes) ∷ [] })
adds_row old new role version bytes count c is h =
    let cells = Text role ∷ Int (pos version) ∷ Blob bytes ∷ [] in
    let id = next_rowid (old.now.trees 3) in
    record {
      tables = adds five 2 (omega arith) insert_row three_values 4 insert_row_is old new cells (Int id ∷ cells) id count (listed c) is.tables (omega arith) (rw (cast_null, cast_int (pos version)) refl) refl h;
      six = (insert_stays 2 (omega arith) insert_row three_values 4 insert_row_is old new _ count c.root2 h (is.six, is.root2)).0;
      root2 = (insert_stays 2 (omega arith) insert_row three_values 4 insert_row_is old new _ count c.root2 h (is.six, is.root2)).1;
      sound = sound_after insert_row _ insert_row_is old new _ count is.tables.schema (λ text w. w.sound) h;
    }

pub adds_blob : (old new : State) (digits bytes : List ℕ) (count : ℕ) (c : Cells) → IsInside old c
    → ExecutesInside 0 insert_blob (Text digits ∷ Blob bytes ∷ []) old new (Ok count) → IsInside new (record c { blob = c.blob ++ (Text digits ∷ Blob bytes ∷ []) ∷ [] })
adds_blob old new digits bytes count c is h =
    let cells = Text digits ∷ Blob bytes ∷ [] in
    let id = next_rowid (old.now.trees 5) in
    record {
      tables = adds five 3 (omega arith) insert_blob two_values 3 insert_blob_is old new cells (Int id ∷ cells) id count (listed c) is.tables (omega arith) (rw cast_null refl) refl h;
      six = (insert_stays 3 (omega arith) insert_blob two_values 3 insert_blob_is old new _ count c.root2 h (is.six, is.root2)).0;
      root2 = (insert_stays 3 (omega arith) insert_blob two_values 3 insert_blob_is old new _ count c.root2 h (is.six, is.root2)).1;
      sound = sound_after insert_blob _ insert_blob_is old new _ count is.tables.schema (λ text w. w.sound) h;
    }

-- ---- DELETE

text_is : (text : List ℕ) (r : Row) → passes by_text (Text text ∷ []) r ≡ has_text text (current_cells r)
text_is text r = and-true _

pub drops_slot : (old new : State) (slot : List ℕ) (count : ℕ) (c : Cells) → IsInside old c → ExecutesInside 0 delete_slot (Text slot ∷ []) old new (Ok count) → IsInside new (record c { current = without_text slot c.current })
drops_slot old new slot count c is h = record {
  tables = drops five 1 (omega arith) delete_slot by_text delete_slot_is old new (Text slot ∷ []) (has_text slot) count (listed c) is.tables (omega arith) (text_is slot) h;
  six = (delete_stays 1 (omega arith) delete_slot by_text delete_slot_is old new _ count c.root2 h (is.six, is.root2)).0;
  root2 = (delete_stays 1 (omega arith) delete_slot by_text delete_slot_is old new _ count c.root2 h (is.six, is.root2)).1;
  sound = sound_after delete_slot _ delete_slot_is old new _ count is.tables.schema (λ text w. w.sound) h;
}

pub empties_current : (old new : State) (count : ℕ) (c : Cells) → IsInside old c → ExecutesInside 0 delete_current [] old new (Ok count) → IsInside new (record c { current = [] })
empties_current old new count c is h =
    let emptied = drops five 1 (omega arith) delete_current [] delete_current_is old new [] (λ _. true) count (listed c) is.tables (omega arith) (λ _. refl) h in
    record {
      tables = subst (λ rows. of_list.IsInside five new (listed (record c { current = rows }))) (none_left c.current) emptied;
      six = (delete_stays 1 (omega arith) delete_current [] delete_current_is old new _ count c.root2 h (is.six, is.root2)).0;
      root2 = (delete_stays 1 (omega arith) delete_current [] delete_current_is old new _ count c.root2 h (is.six, is.root2)).1;
      sound = sound_after delete_current _ delete_current_is old new _ count is.tables.schema (λ text w. w.sound) h;
    }

pub empties_shelf : (old new : State) (count : ℕ) (c : Cells) → IsInside old c → ExecutesInside 0 delete_shelf [] old new (Ok count) → IsInside new (record c { shelf = [] })
empties_shelf old new count c is h =
    let emptied = drops five 2 (omega arith) delete_shelf [] delete_shelf_is old new [] (λ _. true) count (listed c) is.tables (omega arith) (λ _. refl) h in
    record {
      tables = subst (λ rows. of_list.IsInside five new (listed (record c { shelf = rows }))) (none_left c.shelf) emptied;
      six = (delete_stays 2 (omega arith) delete_shelf [] delete_shelf_is old new _ count c.root2 h (is.six, is.root2)).0;
      root2 = (delete_stays 2 (omega arith) delete_shelf [] delete_shelf_is old new _ count c.root2 h (is.six, is.root2)).1;
      sound = sound_after delete_shelf _ delete_shelf_is old new _ count is.tables.schema (λ text w. w.sound) h;
    }
