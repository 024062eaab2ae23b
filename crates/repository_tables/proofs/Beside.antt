-- What a statement does to `root2`, and what the others leave of it.
use Rattle.std.proofs.Common.{◌≡◌, ◌≢◌, ◌<◌, ◌/◌, ◌==◌, ◌||◌, inl, inr, ℕ, ℤ, true, false, not, bytes_eq, codes, List, [], ◌∷◌, ◌++◌, length, flat_map, find, Option, Some, None, option_and_then, option_map, Ok, refl, sym, ap, subst, ◌∙◌, arith, true≢false}
use Rattle.std.specs.List.{AllByRecursion, filter_map, list_all}
use Rattle.std.proofs.lemmas.Bool.{cases_Bool}
use Rattle.std.proofs.lemmas.Bool.Decides.{eqb_tells}
use Rattle.std.proofs.lemmas.Slice.Eq.{bytes_eq-Decides}
use Rattle.sqlite.specs.Order.{Row}
use Rattle.sqlite.specs.Schema.{Schema}
use Rattle.sqlite.specs.Table.{Table}
use Rattle.sqlite.specs.Term.{Term, col}
use Rattle.sqlite.specs.Source.TheVariants.{Values}
use Rattle.sqlite.specs.declared.types.Value.TheVariants.{Int}
use Rattle.sqlite.specs.Command.TheVariants.{Delete, Insert}
use Rattle.sqlite.specs.Effect.{value_rows}
use Rattle.sqlite.specs.State.{State, ExecutesInside}
use Rattle.sqlite.proofs.Callers.{runs_as}
use Rattle.sqlite_rules.specs.Action.{deed_for, pairs, work_by, work_for, works}
use Rattle.sqlite_rules.specs.Edit.{edit_of}
use Rattle.sqlite_rules.proofs.ListLemmas.{all_has, has_found, has_got, test_has}
use Rattle.sqlite_rules.specs.declared.action.Deed.{Deed}
use Rattle.sqlite_rules.specs.declared.error.Rowids.TheVariants.{Chosen}
use Rattle.sqlite_schema.specs.Names.{same_name}
use Rattle.sqlite_schema.specs.Rules.{ParentKey, key_in, key_places, parent_key}
use Rattle.sqlite_schema.specs.declared.schema.Keys.TheVariants.{Enforced}
use Rattle.sqlite_schema.specs.declared.schema.Reference.{Reference}
use Rattle.sqlite_trees.specs.Tree.{rowid}
use Rattle.sqlite_value.specs.declared.keys.Order.{Order}
use Rattle.sql_tables.specs.Described.{at_place, columns_of, followed, places_of, primary_of, rowid_of, table_of, tables_from, tree_from}
use Rattle.sql_tables.specs.Inside.{cells_at, shown_of}
use Rattle.sql_tables.specs.Rows.{AreRows}
use Rattle.sql_tables.proofs.AnswerLemmas.{plain_query}
use Rattle.sql_tables.proofs.Editing.{Means, found_at}
use Rattle.sql_tables.proofs.Insert.{deletes, inserts}
use Rattle.sql_tables.proofs.References.{all_front, tree_below, unreferenced}
use Rattle.sql_tables.proofs.Shapes.{at_each}
use Rattle.sql_tables.proofs.Statements.{added}
use Rattle.table_rows.specs.Rows.{root2_cells}
use Rattle.table_rows.specs.Schema.{HasFive, HasSecond, HasSix, five, is_apart, root2_rows, root2_table}
use Rattle.repository_tables.specs.steps.Writing.{Cells, IsInside, listed}
use Rattle.table_rows.proofs.Beginnings.{rows_second}
use Rattle.table_rows.proofs.Resolved.{IsMeant}

-- ---- no foreign key acts where a row of `root2` changes

module _ (s : Schema) (place tree : ℕ) (has : HasSecond s place tree) where
  -- a table that another name finds has another tree
  found_apart : (name : List ℕ) → same_name (codes "root2") name ≡ false → (t : Table) → find (λ (u : Table). same_name u.name name) s.tables ≡ Some t → t.tree ≢ tree
  found_apart name other t found same =
      let it = has_found (λ (u : Table). same_name u.name name) s.tables t found in
      let there : (not (t.tree == tree) || bytes_eq t.name (codes "root2")) ≡ true = test_has (λ (u : Table). not (u.tree == tree) || bytes_eq u.name (codes "root2")) s.tables t has.alone it.0 in
      let ours : t.name ≡ codes "root2" = elim (eqb_tells t.tree tree) [ inl is ↦ (bytes_eq-Decides t.name (codes "root2")).0 (rw is.0 at there) | inr apart ↦ absurd (apart.1 same) ] in
      true≢false (sym it.1 ∙ ap (λ n. same_name n name) ours ∙ other)

  key_apart : (ref : Reference) (o : Option Table) → ((t : Table) → o ≡ Some t → t.tree ≢ tree) → (key : ParentKey)
      → option_and_then (λ t. option_and_then (key_in t) (key_places t ref.parent_columns)) o ≡ Some key → key.0 ≢ tree
  key_apart ref None apart key is = absurd (let e = is in cc)
  key_apart ref (Some t) apart key is = places (key_places t ref.parent_columns) is
    where
      ordered : (places : List ℕ) (r : Option Order) → option_map (λ o. (t.tree, places, o)) r ≡ Some key → key.0 ≢ tree
      ordered places None e = absurd (let f = e in cc)
      ordered places (Some o) e = let same : t.tree ≡ key.0 = cc in subst (λ n. n ≢ tree) same (apart t refl)

      places : (p : Option (List ℕ)) → option_and_then (key_in t) p ≡ Some key → key.0 ≢ tree
      places None e = absurd (let f = e in cc)
      places (Some ps) e = ordered ps _ e

  no_work : (child : Table) (olds news : List Row) (ref : Reference) → same_name (codes "root2") ref.parent ≡ false → work_for s Enforced 0 tree olds news child ref ≡ None
  no_work child olds news ref other = go (deed_for Enforced (length news == 0) ref) (parent_key s.tables ref) refl
    where
      go : (deed : Option Deed) (key : Option ParentKey) → parent_key s.tables ref ≡ key → work_by 0 tree (pairs olds news) child ref deed key ≡ None
      go None key is = refl
      go (Some deed) None is = refl
      go (Some deed) (Some key) is = elim (eqb_tells key.0 tree) [ inl same ↦ absurd (key_apart ref _ (found_apart ref.parent other) key is same.1) | inr apart ↦ rw apart.0 refl ]

  no_works : (child : Table) (olds news : List Row) (refs : List Reference) → is_apart refs ≡ true → filter_map (work_for s Enforced 0 tree olds news child) refs ≡ []
  no_works child olds news [] all = refl
  no_works child olds news (r ∷ refs) all = elim (cases_Bool (same_name (codes "root2") r.parent)) [
    | inl same ↦ absurd (let f = rw same at all in cc)
    | inr other ↦ rw (no_work child olds news r other) (no_works child olds news refs (rw other at all))
  ]

  none_of : (olds news : List Row) (ts : List Table) → list_all (λ (t : Table). is_apart t.references) ts ≡ true → flat_map (λ (child : Table). filter_map (work_for s Enforced 0 tree olds news child) child.references) ts ≡ []
  none_of olds news [] all = refl
  none_of olds news (t ∷ ts) all = elim (cases_Bool (is_apart t.references)) [
    | inl here ↦ rw (no_works t olds news t.references here) (none_of olds news ts (rw here at all))
    | inr other ↦ absurd (let f = rw other at all in cc)
  ]

  pub second_unreferenced : (olds news : List Row) → works s Enforced 0 tree olds news ≡ []
  second_unreferenced olds news = none_of olds news s.tables has.apart

-- ---- a statement on one of the five leaves `root2` as it is

-- the trees of these tables, but for one, are as they were
abbrev Leaves : ℕ → State → State → List Table → Type 0
Leaves tree old new ts = AllByRecursion (λ (t : Table). t.tree ≢ tree → new.now.trees t.tree ≡ old.now.trees t.tree) ts

inserted : (place : ℕ) → place < length five → (sql : List ℕ) (terms : List Term) (width : ℕ) → Means five sql (Insert place (Values terms width)) → (old new : State) (params : Row) (count : ℕ) → HasFive old.now.schema
    → ExecutesInside 0 sql params old new (Ok count) → (new.now.schema ≡ old.now.schema) × Leaves (tree_from 0 five place) old new old.now.schema.tables
inserted place few sql terms width means old new params count has h =
    let further = has.0 in
    let here = at_place five place in
    let w = runs_as sql params old new (followed five further) has.1 (Insert place (Values terms width)) (means further).0 (means further).1 count h.0 in
    let a = inserts (followed five further) place here.name (columns_of here.columns) (rowid_of here.key) (primary_of here.key here.uniques) (places_of here.uniques) (tree_from 0 five place) (found_at 0 five further.tables place few) (unreferenced five further place few has.2) old new params terms width count _ has.1 w in
    (a.1 ∙ sym has.1, subst (λ (x : Schema). Leaves (tree_from 0 five place) old new x.tables) (sym has.1) a.0.tables)

deleted : (place : ℕ) → place < length five → (sql : List ℕ) (terms : List Term) → Means five sql (Delete place (record { lets = []; body = plain_query (tree_from 0 five place) terms (col 1 0 ∷ []) [] })) → (old new : State) (params : Row) (count : ℕ)
    → HasFive old.now.schema → ExecutesInside 0 sql params old new (Ok count) → (new.now.schema ≡ old.now.schema) × Leaves (tree_from 0 five place) old new old.now.schema.tables
deleted place few sql terms means old new params count has h =
    let further = has.0 in
    let here = at_place five place in
    let q = plain_query (tree_from 0 five place) terms (col 1 0 ∷ []) [] in
    let w = runs_as sql params old new (followed five further) has.1 (Delete place (record { lets = []; body = q })) (means further).0 (means further).1 count h.0 in
    let a = deletes (followed five further) place here.name (columns_of here.columns) (rowid_of here.key) (primary_of here.key here.uniques) (places_of here.uniques) (tree_from 0 five place) (found_at 0 five further.tables place few) (unreferenced five further place few has.2) old new params _ count _ has.1 w in
    (a.3 ∙ sym has.1, subst (λ (x : Schema). Leaves (tree_from 0 five place) old new x.tables) (sym has.1) a.2.tables)

-- so all six are there after it, and the rows of `root2`
abbrev pub Stays : State → List Row → Type 0
Stays s rows = HasSix s.now.schema × AreRows root2_cells (root2_rows s.now.schema s.now.trees) rows

stays : (old new : State) (place : ℕ) → place < length five → (rows : List Row) → HasSix old.now.schema → (new.now.schema ≡ old.now.schema) × Leaves (tree_from 0 five place) old new old.now.schema.tables
    → Stays old rows → Stays new rows
stays old new place few rows has kept was =
    let second = has.3 in
    let tree = has.2 in
    let below = tree_below 0 five place few in
    let same : new.now.trees tree ≡ old.now.trees tree = all_has _ old.now.schema.tables (table_of root2_table tree) kept.1 (has_got old.now.schema.tables has.1 _ second.found) (λ e. omega (arith, second.behind, below, e)) in
    let now : HasSecond new.now.schema has.1 tree = subst (λ (x : Schema). HasSecond x has.1 tree) (sym kept.0) second in (
      subst HasSix (sym kept.0) has,
      subst (λ r. AreRows root2_cells r rows) (rows_second old.now.schema old.now.trees has.1 tree second ∙ sym same ∙ sym (rows_second new.now.schema new.now.trees has.1 tree now)) was.1,
    )

pub insert_stays : (place : ℕ) → place < length five → (sql : List ℕ) (terms : List Term) (width : ℕ) → Means five sql (Insert place (Values terms width)) → (old new : State) (params : Row) (count : ℕ) (rows : List Row)
    → ExecutesInside 0 sql params old new (Ok count) → Stays old rows → Stays new rows
insert_stays place few sql terms width means old new params count rows h was = stays old new place few rows was.0 (inserted place few sql terms width means old new params count was.0.0 h) was

pub delete_stays : (place : ℕ) → place < length five → (sql : List ℕ) (terms : List Term) → Means five sql (Delete place (record { lets = []; body = plain_query (tree_from 0 five place) terms (col 1 0 ∷ []) [] })) → (old new : State) (params : Row)
    (count : ℕ) (rows : List Row) → ExecutesInside 0 sql params old new (Ok count) → Stays old rows → Stays new rows
delete_stays place few sql terms means old new params count rows h was = stays old new place few rows was.0 (deleted place few sql terms means old new params count was.0.0 h) was

-- ---- a row more in `root2`

pub adds_second : (sql : List ℕ) (terms : List Term) (width : ℕ) → ((s : Schema) (place tree : ℕ) → HasSecond s place tree → IsMeant s sql (Insert place (Values terms width)))
    → (old new : State) (params : Row) (row : Row) (k : ℤ) (count : ℕ) (c : Cells) → IsInside old c
    → ((tree : ℕ) → (edit_of old.now.trees (table_of root2_table tree) [] Chosen 0 (value_rows (params ++ []) width (length terms / width) terms)).news ≡ row ∷ []) → rowid row ≡ Int k
    → ExecutesInside 0 sql params old new (Ok count) → IsInside new (record c { root2 = c.root2 ++ root2_cells row ∷ [] })
adds_second sql terms width means old new params row k count c is news id h =
    let s = old.now.schema in
    let place = is.six.1 in
    let tree = is.six.2 in
    let second = is.six.3 in
    let meant = means s place tree second in
    let w = runs_as sql params old new s refl (Insert place (Values terms width)) meant.0 meant.1 count h.0 in
    let a = inserts s place (codes "root2") (columns_of root2_table.columns) (rowid_of root2_table.key) (primary_of root2_table.key root2_table.uniques) (places_of root2_table.uniques) tree second.found (second_unreferenced s place tree second) old new params terms width count _ refl w in
    let now : HasSecond new.now.schema place tree = subst (λ (x : Schema). HasSecond x place tree) (sym a.1) second in
    let others = all_front (λ (t : Table). t.tree ≢ tree → new.now.trees t.tree ≡ old.now.trees t.tree) (tables_from 0 five) is.six.0.0.tables (subst (λ (x : Schema). Leaves tree old new x.tables) is.six.0.1 a.0.tables) in
    record {
      tables = record {
        is_open = h.1.is_open;
        inside = h.1.mode;
        schema = subst HasFive (sym a.1) is.six.0;
        holds = λ n few.
            let same : new.now.trees (tree_from 0 five n) ≡ old.now.trees (tree_from 0 five n) = at_each (λ t. t ≢ tree → new.now.trees t ≡ old.now.trees t) 0 five others n few (λ e. omega (arith, second.behind, tree_below 0 five n few, e)) in
            subst (λ r. AreRows (shown_of (at_place five n)) r (cells_at (listed c) n)) (sym same) (is.tables.holds n few);
      };
      six = subst HasSix (sym a.1) is.six;
      root2 = subst (λ r. AreRows root2_cells r (c.root2 ++ root2_cells row ∷ [])) (sym (rows_second new.now.schema new.now.trees place tree now))
          (added row k (subst (λ r. AreRows root2_cells r c.root2) (rows_second s old.now.trees place tree second) is.root2) id (news tree) a.0.fresh a.0.rows);
      sound = w.sound;
    }
