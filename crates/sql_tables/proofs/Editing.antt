-- One INSERT, one DELETE and the first row, over any list of tables.
use Rattle.std.proofs.Common.{◌≡◌, ◌≢◌, ◌<◌, ◌/◌, inl, inr, ℕ, zero, suc, ℤ, List, [], ◌∷◌, ◌++◌, Bool, not, filter, length, slice_get, Some, Ok, IsTrue, refl, sym, ap, subst, ◌∙◌, arith}
use Rattle.std.specs.List.{AllByRecursion}
use Rattle.std.proofs.lemmas.Bool.Decides.{eqb_tells}
use Rattle.sqlite.specs.declared.types.Value.TheVariants.{Int, Null}
use Rattle.sqlite.specs.Order.{Row}
use Rattle.sqlite.specs.Term.{Term, col}
use Rattle.sqlite.specs.Table.{Table}
use Rattle.sqlite.specs.Source.TheVariants.{Values}
use Rattle.sqlite.specs.Command.{Command}
use Rattle.sqlite.specs.Command.TheVariants.{Insert, Delete}
use Rattle.sqlite.specs.Schema.{Schema}
use Rattle.sqlite.specs.Effect.{value_rows}
use Rattle.sqlite.specs.Listing.{understood}
use Rattle.sqlite.specs.State.{State, ExecutesInside}
use Rattle.sqlite.proofs.Callers.{IsPlain, command_of, runs_as}
use Rattle.sqlite_rules.specs.Edit.{edit_of}
use Rattle.sqlite_rules.specs.declared.error.Rowids.TheVariants.{Chosen}
use Rattle.sqlite_trees.specs.Tree.{Trees, rowid}
use Rattle.sql_tables.specs.Rows.{AreRows}
use Rattle.sql_tables.specs.Described.{AreEmpty, Description, HasAll, at_place, columns_of, past_table, followed, places_of, primary_of, rowid_of, schema_of, table_of, tables_from, tree_from}
use Rattle.sql_tables.specs.Inside.{IsInside, cells_at, put_at, shown_of}
use Rattle.sql_tables.proofs.AnswerLemmas.{passes, plain_query}
use Rattle.sql_tables.proofs.Beginnings.{past_above, tree_above}
use Rattle.sql_tables.proofs.Insert.{deletes, inserts}
use Rattle.sql_tables.proofs.References.{all_front, unreferenced}
use Rattle.sql_tables.proofs.Shapes.{at_each, has_all_alone}
use Rattle.sql_tables.proofs.Statements.{added, removed, rows_same}
use Rattle.sql_tables.proofs.MakingLemmas.{all_then, no_rows}
use Rattle.sql_tables.specs.Making.{IsMade}
use Rattle.sqlite_rules.specs.Lists.{Has}
use Rattle.sqlite_rules.proofs.ListLemmas.{all_from}

-- ---- tables by their places

pub found_at : (tree : ℕ) (ds : List Description) (more : List Table) (n : ℕ) → n < length ds → slice_get (tables_from tree ds ++ more) n ≡ Some (table_of (at_place ds n) (tree_from tree ds n))
found_at tree [] more n few = absurd (omega (arith, few))
found_at tree (d ∷ ds) more zero few = refl
found_at tree (d ∷ ds) more (suc n) few = found_at (past_table d tree) ds more n (omega (arith, few))

trees_apart : (tree : ℕ) (ds : List Description) (n m : ℕ) → n < length ds → m < length ds → n ≢ m → tree_from tree ds n ≢ tree_from tree ds m
trees_apart tree [] n m few few' other same = absurd (omega (arith, few))
trees_apart tree (d ∷ ds) zero zero few few' other same = other refl
trees_apart tree (d ∷ ds) zero (suc m) few few' other same = absurd (omega (arith, same, past_above d tree, tree_above (past_table d tree) ds m))
trees_apart tree (d ∷ ds) (suc n) zero few few' other same = absurd (omega (arith, same, past_above d tree, tree_above (past_table d tree) ds n))
trees_apart tree (d ∷ ds) (suc n) (suc m) few few' other same = trees_apart (past_table d tree) ds n m (omega (arith, few)) (omega (arith, few')) (λ e. other (ap suc e)) same

put_here : (cells : List (List Row)) (place : ℕ) (rows : List Row) → place < length cells → cells_at (put_at place rows cells) place ≡ rows
put_here [] place rows few = absurd (omega (arith, few))
put_here (c ∷ cells) zero rows few = refl
put_here (c ∷ cells) (suc place) rows few = put_here cells place rows (omega (arith, few))

put_elsewhere : (cells : List (List Row)) (place n : ℕ) (rows : List Row) → n ≢ place → cells_at (put_at place rows cells) n ≡ cells_at cells n
put_elsewhere [] place n rows other = refl
put_elsewhere (c ∷ cells) zero zero rows other = absurd (other refl)
put_elsewhere (c ∷ cells) zero (suc n) rows other = refl
put_elsewhere (c ∷ cells) (suc place) zero rows other = refl
put_elsewhere (c ∷ cells) (suc place) (suc n) rows other = put_elsewhere cells place n rows (λ e. other (ap suc e))

-- ---- one statement, at the place of its table

-- what a text means, whatever stands behind the tables
abbrev pub Means : List Description → List ℕ → Command → Type 0
Means ds sql command = (further : Schema) → (command_of (understood (followed ds further) sql) ≡ command) × IsPlain (understood (followed ds further) sql)

module _ (ds : List Description) (place : ℕ) (few : place < length ds) where
  abbrev here : Description
  here = at_place ds place

  abbrev tree_here : ℕ
  tree_here = tree_from 0 ds place

  abbrev the_table : Table
  the_table = table_of here tree_here

  edited : (old new : State) (cells : List (List Row)) (rows : List Row) → IsInside ds old cells → place < length cells → IsTrue new.is_open × IsTrue new.in_transaction → HasAll ds new.now.schema
      → AllByRecursion (λ (t : Table). t.tree ≢ tree_here → new.now.trees t.tree ≡ old.now.trees t.tree) (tables_from 0 ds) → AreRows (shown_of here) (new.now.trees tree_here) rows → IsInside ds new (put_at place rows cells)
  edited old new cells rows is long opened schema others now = record {
    is_open = opened.0;
    inside = opened.1;
    schema = schema;
    holds = λ n few_n. elim (eqb_tells n place) [
      | inl same ↦
          subst (λ m. AreRows (shown_of (at_place ds m)) (new.now.trees (tree_from 0 ds m)) (cells_at (put_at place rows cells) m)) (sym same.1)
          (subst (AreRows (shown_of here) (new.now.trees tree_here)) (sym (put_here cells place rows long)) now)
      | inr other ↦
          let stays = at_each (λ t. t ≢ tree_here → new.now.trees t ≡ old.now.trees t) 0 ds others n few_n (trees_apart 0 ds n place few_n few other.1) in
          subst (AreRows (shown_of (at_place ds n)) (new.now.trees (tree_from 0 ds n))) (sym (put_elsewhere cells place n rows other.1))
          (subst (λ r. AreRows (shown_of (at_place ds n)) r (cells_at cells n)) (sym stays) (is.holds n few_n))
    ];
  }

  -- the cells of a table are a set
  pub same_inside : (s : State) (cells : List (List Row)) (rows : List Row) → IsInside ds s cells → place < length cells → ((x : Row) → Has (cells_at cells place) x → Has rows x) → ((x : Row) → Has rows x → Has (cells_at cells place) x)
      → IsInside ds s (put_at place rows cells)
  same_inside s cells rows is long there back =
      edited s s cells rows is long (is.is_open, is.inside) is.schema (all_from (λ (t : Table). t.tree ≢ tree_here → s.now.trees t.tree ≡ s.now.trees t.tree) (tables_from 0 ds) (λ t h other. refl)) (rows_same (is.holds place few) there back)

  -- one row more
  pub adds : (sql : List ℕ) (terms : List Term) (width : ℕ) → Means ds sql (Insert place (Values terms width))
      → (old new : State) (params : Row) (row : Row) (k : ℤ) (count : ℕ) (cells : List (List Row)) → IsInside ds old cells → place < length cells
      → (edit_of old.now.trees the_table [] Chosen 0 (value_rows (params ++ []) width (length terms / width) terms)).news ≡ row ∷ [] → rowid row ≡ Int k
      → ExecutesInside 0 sql params old new (Ok count) → IsInside ds new (put_at place (cells_at cells place ++ shown_of here row ∷ []) cells)
  adds sql terms width means old new params row k count cells is long news id h =
      let further = is.schema.0 in
      let s = followed ds further in
      let free = unreferenced ds further place few is.schema.2 in
      let w = runs_as sql params old new s is.schema.1 (Insert place (Values terms width)) (means further).0 (means further).1 count h.0 in
      let a = inserts s place here.name (columns_of here.columns) (rowid_of here.key) (primary_of here.key here.uniques) (places_of here.uniques) tree_here (found_at 0 ds further.tables place few) free old new params terms width count _ is.schema.1 w in
      edited old new cells (cells_at cells place ++ shown_of here row ∷ []) is long (h.1.is_open, h.1.mode) (further, a.1, is.schema.2) (all_front (λ (t : Table). t.tree ≢ tree_here → new.now.trees t.tree ≡ old.now.trees t.tree) (tables_from 0 ds) further.tables a.0.tables)
      (added row k (is.holds place few) id news a.0.fresh a.0.rows)

  -- the rows go that WHERE picks
  pub drops : (sql : List ℕ) (terms : List Term) → Means ds sql (Delete place (record { lets = []; body = plain_query tree_here terms (col 1 0 ∷ []) [] }))
      → (old new : State) (params : Row) (picked : Row → Bool) (count : ℕ) (cells : List (List Row)) → IsInside ds old cells → place < length cells → ((r : Row) → passes terms params r ≡ picked (shown_of here r))
      → ExecutesInside 0 sql params old new (Ok count) → IsInside ds new (put_at place (filter (λ c. not (picked c)) (cells_at cells place)) cells)
  drops sql terms means old new params picked count cells is long same h =
      let further = is.schema.0 in
      let s = followed ds further in
      let free = unreferenced ds further place few is.schema.2 in
      let q = plain_query tree_here terms (col 1 0 ∷ []) [] in
      let w = runs_as sql params old new s is.schema.1 (Delete place (record { lets = []; body = q })) (means further).0 (means further).1 count h.0 in
      let a = deletes s place here.name (columns_of here.columns) (rowid_of here.key) (primary_of here.key here.uniques) (places_of here.uniques) tree_here (found_at 0 ds further.tables place few) free old new params _ count _ is.schema.1 w in
      edited old new cells (filter (λ c. not (picked c)) (cells_at cells place)) is long (h.1.is_open, h.1.mode) (further, a.3, is.schema.2) (all_front (λ (t : Table). t.tree ≢ tree_here → new.now.trees t.tree ≡ old.now.trees t.tree) (tables_from 0 ds) further.tables a.2.tables)
      (subst (λ rows. AreRows (shown_of here) rows (filter (λ c. not (picked c)) (cells_at cells place))) (sym a.2.rows) (removed (shown_of here) old.now.trees tree_here terms params (cells_at cells place) (is.holds place few) picked same a.0 (a.1.answer Null)))

-- ---- tables that were just made

none_at : (xs : List (List Row)) → AllByRecursion (λ (x : List Row). x ≡ []) xs → (n : ℕ) → cells_at xs n ≡ []
none_at [] all n = refl
none_at (x ∷ xs) all zero = all.0
none_at (x ∷ xs) all (suc n) = none_at xs all.1 n

-- where the tables are there, with rows that are counted as none
pub bare_inside : (ds : List Description) (s : State) → IsTrue s.is_open → IsTrue s.in_transaction → HasAll ds s.now.schema → AreEmpty (schema_of ds) s.now.trees → (cells : List (List Row)) → AllByRecursion (λ (x : List Row). x ≡ []) cells → IsInside ds s cells
bare_inside ds s is_open inside schema bare cells none = record {
  is_open = is_open;
  inside = inside;
  schema = schema;
  holds = λ n few.
      let here : s.now.trees (tree_from 0 ds n) ≡ [] = at_each (λ t. s.now.trees t ≡ []) 0 ds bare n few in
      subst (AreRows (shown_of (at_place ds n)) (s.now.trees (tree_from 0 ds n))) (sym (none_at cells none n)) (subst (λ r. AreRows (shown_of (at_place ds n)) r []) (sym here) (no_rows (shown_of (at_place ds n))));
}

pub made_inside : (ds : List Description) (rows : Trees) (s : State) → IsMade rows (schema_of ds) s → AreEmpty (schema_of ds) rows → (cells : List (List Row)) → AllByRecursion (λ (x : List Row). x ≡ []) cells → IsInside ds s cells
made_inside ds rows s is bare cells none =
    bare_inside ds s is.is_open is.inside (subst (HasAll ds) (sym is.schema_is) (has_all_alone ds)) (all_then (λ (t : Table). s.now.trees t.tree ≡ rows t.tree) (λ (t : Table). rows t.tree ≡ []) (λ (t : Table). s.now.trees t.tree ≡ []) (tables_from 0 ds) is.holds bare (λ t same empty. same ∙ empty)) cells none

-- where the tables that were made hold these rows
pub rows_inside : (ds : List Description) (rows : Trees) (s : State) → IsMade rows (schema_of ds) s → (cells : List (List Row))
    → ((n : ℕ) → n < length ds → AreRows (shown_of (at_place ds n)) (rows (tree_from 0 ds n)) (cells_at cells n)) → IsInside ds s cells
rows_inside ds rows s is cells each = record {
  is_open = is.is_open;
  inside = is.inside;
  schema = subst (HasAll ds) (sym is.schema_is) (has_all_alone ds);
  holds = λ n few.
      let here : s.now.trees (tree_from 0 ds n) ≡ rows (tree_from 0 ds n) = at_each (λ t. s.now.trees t ≡ rows t) 0 ds is.holds n few in
      subst (λ r. AreRows (shown_of (at_place ds n)) r (cells_at cells n)) (sym here) (each n few);
}
