-- What a change makes of the cells of the tables.
use Rattle.std.proofs.Common.{◌≡◌, ℕ, List, [], ◌∷◌, ◌++◌, false, Some, None, Option, map, refl, sym, subst, ◌∙◌, codes, inl, inr, Result, Ok, Err, IfErr, OnErr, IsTrue, arith, true≢false}
use Rattle.std.proofs.lemmas.List.{map-append}
use Rattle.sqlite_rules.specs.Lists.{Has}
use Rattle.sqlite_trees.specs.Tree.{Trees}
use Rattle.sqlite_trees.specs.declared.store.Store.{Ghosts}
use Rattle.sqlite.specs.Order.{Row}
use Rattle.sqlite.specs.Effect.{Database, IsDatabase}
use Rattle.sqlite.specs.Steps.{FailsToCommit}
use Rattle.sqlite.specs.declared.error.Error.{Error}
use Rattle.sqlite.specs.State.{IsRolledBack, KeepsCommit, State, Shows}
use Rattle.sqlite.specs.Held.{state}
use Rattle.sqlite.specs.declared.transaction.Transaction.{Transaction}
use Rattle.repository_tables.specs.declared.change.Change.{Change}
use Rattle.repository_rows.specs.Contents.{Contents}
use Rattle.sql_tables.proofs.Calls.{keeps_then}
use Rattle.sql_tables.proofs.Editing.{same_inside}
use Rattle.table_rows.specs.Schema.{HasSix, five, held}
use Rattle.repository_tables.specs.steps.Writing.{listed, Cells, IsInside, IsUncommitted, cells_of}
use Rattle.table_rows.specs.Tables.{HoldsTables, HoldsWhole, IsStore, root_row, slot_row, slot_rows, current_rows, shelf_row, blob_row}
use Rattle.repository_tables.specs.Changes.{with_root, with_row, with_blob, with_timestamp, with_snapshot, after, after_all}
use Rattle.table_rows.proofs.Beginnings.{six_after}
use Rattle.table_rows.proofs.Looking.{quiet_then}
use Rattle.repository_tables.proofs.CellLemmas.{cells_of_five, cells_second, five_of_cells}
use Rattle.sql_tables.specs.Writing.{without_text}
use Rattle.sql_tables.proofs.Statements.{text_test, turned, turned_back}

pub grown_root : (s : State) (t : Contents) (r : ℕ × (ℕ × List ℕ)) → IsInside s (record (cells_of t) { root2 = map root_row t.roots ++ root_row r ∷ [] }) → IsInside s (cells_of (with_root r t))
grown_root s t r is = subst (λ rows. IsInside s (record (cells_of t) { root2 = rows })) (sym (map-append root_row t.roots (r ∷ []))) is

pub grown_shelf : (s : State) (t : Contents) (r : (List ℕ × ℕ) × List ℕ) → IsInside s (record (cells_of t) { shelf = map shelf_row t.shelf ++ shelf_row r ∷ [] }) → IsInside s (cells_of (with_row r t))
grown_shelf s t r is = subst (λ rows. IsInside s (record (cells_of t) { shelf = rows })) (sym (map-append shelf_row t.shelf (r ∷ []))) is

pub grown_blob : (s : State) (t : Contents) (r : List ℕ × List ℕ) → IsInside s (record (cells_of t) { blob = map blob_row t.blobs ++ blob_row r ∷ [] }) → IsInside s (cells_of (with_blob r t))
grown_blob s t r is = subst (λ rows. IsInside s (record (cells_of t) { blob = rows })) (sym (map-append blob_row t.blobs (r ∷ []))) is

-- ---- the rows of `current`

abbrev timestamp_slot : List ℕ
timestamp_slot = codes "timestamp"

abbrev snapshot_slot : List ℕ
snapshot_slot = codes "snapshot"

without_timestamp : (a b : Option (ℕ × List ℕ)) → without_text timestamp_slot (current_rows a b) ≡ slot_rows snapshot_slot b
without_timestamp None None = refl
without_timestamp (Some x) None = rw (text_test timestamp_slot timestamp_slot) refl
without_timestamp None (Some y) = rw (text_test snapshot_slot timestamp_slot) refl
without_timestamp (Some x) (Some y) = rw (text_test timestamp_slot timestamp_slot, text_test snapshot_slot timestamp_slot) refl

without_snapshot : (a b : Option (ℕ × List ℕ)) → without_text snapshot_slot (current_rows a b) ≡ slot_rows timestamp_slot a
without_snapshot None None = refl
without_snapshot (Some x) None = rw (text_test timestamp_slot snapshot_slot) refl
without_snapshot None (Some y) = rw (text_test snapshot_slot snapshot_slot) refl
without_snapshot (Some x) (Some y) = rw (text_test timestamp_slot snapshot_slot, text_test snapshot_slot snapshot_slot) refl

with_current : (s : State) (c : Cells) (rows : List Row) → IsInside s c → ((x : Row) → Has c.current x → Has rows x) → ((x : Row) → Has rows x → Has c.current x) → IsInside s (record c { current = rows })
with_current s c rows is there back = record { tables = same_inside five 1 (omega arith) s (listed c) rows is.tables (omega arith) there back; six = is.six; root2 = is.root2; sound = is.sound }

pub new_timestamp : (s : State) (t : Contents) (r : ℕ × List ℕ)
    → IsInside s (record (cells_of t) { current = without_text timestamp_slot (current_rows t.timestamp t.snapshot) ++ slot_row timestamp_slot r ∷ [] }) → IsInside s (cells_of (with_timestamp r t))
new_timestamp s t r is =
    let rest = slot_rows snapshot_slot t.snapshot in
    let at = subst (λ rows. IsInside s (record (cells_of t) { current = rows ++ slot_row timestamp_slot r ∷ [] })) (without_timestamp t.timestamp t.snapshot) is in
    with_current s (record (cells_of t) { current = rest ++ slot_row timestamp_slot r ∷ [] }) (slot_row timestamp_slot r ∷ rest) at (turned rest _) (turned_back rest _)

pub new_snapshot : (s : State) (t : Contents) (r : ℕ × List ℕ)
    → IsInside s (record (cells_of t) { current = without_text snapshot_slot (current_rows t.timestamp t.snapshot) ++ slot_row snapshot_slot r ∷ [] }) → IsInside s (cells_of (with_snapshot r t))
new_snapshot s t r is = subst (λ rows. IsInside s (record (cells_of t) { current = rows ++ slot_row snapshot_slot r ∷ [] })) (without_snapshot t.timestamp t.snapshot) is

-- ---- a transaction

-- a statement after others
pub uncommitted_then : {S : Type 0} (g : Ghosts S) (a b c : Transaction S) → IsUncommitted g a b → IsUncommitted g b c → IsUncommitted g a c
uncommitted_then g a b c one two = record {
  same_reference = two.same_reference ∙ one.same_reference;
  kept = λ clean. keeps_then (state g a.conn.now) (state g b.conn.now) (state g c.conn.now) (one.kept (omega (arith, clean, two.survives.clean))) (two.kept clean);
  survives = quiet_then (state g a.conn.now) (state g b.conn.now) (state g c.conn.now) one.survives two.survives;
}

pub after_all_more : (cs : List Change) (c : Change) (t : Contents) → after_all (cs ++ c ∷ []) t ≡ after c (after_all cs t)
after_all_more [] c t = refl
after_all_more (x ∷ cs) c t = after_all_more cs c (after x t)

pub to_tables : {s : State} {t : Contents} → IsInside s (cells_of t) → HoldsTables (held s.now.schema s.now.trees) t
to_tables {s} {t} is =
    let holds = cells_of_five s (cells_of t) is in
    record { root = holds.root; current = holds.current; shelf = holds.shelf; blob = holds.blob; version = holds.version; root2 = holds.root2 }

-- what a commit of it writes
pub to_whole : {s : State} {t : Contents} → IsInside s (cells_of t) → (trees : Trees) → trees ≡ s.now.trees → HoldsWhole trees t
to_whole {s} {t} is trees same = (s.now, sym same, is.sound, is.six, to_tables is)

pub inside : (s : State) (t : Contents) → IsTrue s.is_open → IsTrue s.in_transaction → IsDatabase s.now → HasSix s.now.schema → HoldsTables (held s.now.schema s.now.trees) t → IsInside s (cells_of t)
inside s t is_open within sound schema holds = record {
  tables = record { is_open = is_open; inside = within; schema = schema.0; holds = five_of_cells s.now.schema s.now.trees (cells_of t) schema.0 (cells_second _ t holds) };
  six = schema;
  root2 = holds.root2;
  sound = sound;
}

pub committed : (tx end : State) (t : Contents) → IsInside tx (cells_of t) → Shows tx end tx.now tx.now false → IsStore end t
committed tx end t is shows = record {
  is_open = shows.is_open;
  schema = six_after shows.now_is is.six;
  settled = shows.now_is ∙ sym shows.committed_is;
  holds = subst (λ (d : Database). HoldsTables (held d.schema d.trees) t) (sym shows.now_is) (to_tables is);
}

-- a transaction that is undone leaves the rows that were there before it
pub kept_back : (old tx end : State) (t : Contents) → IsTrue end.is_open → KeepsCommit old tx → IsRolledBack tx end → IsStore old t → IsStore end t
kept_back old tx end t stays kept back is =
    let both = back.undone stays in
    let now : end.now ≡ old.now = both.0 ∙ kept.committed (back.was_open stays) ∙ sym is.settled in
    record {
      is_open = stays;
      schema = six_after now is.schema;
      settled = both.0 ∙ sym both.1;
      holds = subst (λ (d : Database). HoldsTables (held d.schema d.trees) t) (sym now) is.holds;
    }

-- a commit that fails, inside a transaction, has undone it
pub fails_back : (tx end : State) (e : Error) → IsTrue tx.in_transaction → FailsToCommit tx end e → IsRolledBack tx end
fails_back tx end e within (inl fails) = fails.3
fails_back tx end e within (inr none) = absurd (true≢false (sym within ∙ none.1))

pub on_err : {A E Q : Type 0} (r : Result A E) → Q → OnErr r Q
on_err (Ok a) q = tt
on_err (Err e) q = q

pub err_then : {A E Q : Type 0} {P : E → Type 0} (r : Result A E) → IfErr r P → ((e : E) → P e → Q) → OnErr r Q
err_then (Ok a) p f = tt
err_then (Err e) p f = f e p
