-- Nothing refers to the tables of a list, whatever stands behind them.
use Rattle.std.proofs.Common.{◌≡◌, ◌≤◌, ◌<◌, ◌+◌, ◌++◌, ◌==◌, inl, inr, ℕ, zero, suc, List, [], ◌∷◌, Bool, true, false, if◌then◌else◌, Option, Some, None, option_and_then, option_map, find, flat_map, length, refl, subst, arith}
use Rattle.std.specs.List.{AllByRecursion, filter_map}
use Rattle.std.proofs.lemmas.Bool.Decides.{eqb_tells}
use Rattle.sqlite.specs.Order.{Row}
use Rattle.sqlite.specs.Schema.{Schema}
use Rattle.sqlite.specs.Table.{Table}
use Rattle.sqlite_schema.specs.Names.{same_name}
use Rattle.sqlite_schema.specs.Rules.{ParentKey, key_in, key_places, parent_key}
use Rattle.sqlite_schema.specs.declared.schema.Keys.TheVariants.{Enforced}
use Rattle.sqlite_schema.specs.declared.schema.Reference.{Reference}
use Rattle.sqlite_value.specs.declared.keys.Order.{Order}
use Rattle.sqlite_rules.specs.Action.{deed_for, pairs, work_by, work_for, works}
use Rattle.sqlite_rules.specs.declared.action.Deed.{Deed}
use Rattle.sql_tables.specs.Described.{Description, IsFurther, followed, past_all, past_table, tables_from, tree_from}
use Rattle.sql_tables.proofs.Beginnings.{past_above}
use Rattle.sql_tables.proofs.Shapes.{past_up}

pub all_front : {X : Type 0} (P : X → Type 0) (xs ys : List X) → AllByRecursion P (xs ++ ys) → AllByRecursion P xs
all_front P [] ys all = tt
all_front P (x ∷ xs) ys all = (all.0, all_front P xs ys all.1)

-- the trees of a list are below what is past it
pub tree_below : (tree : ℕ) (ds : List Description) (n : ℕ) → n < length ds → tree_from tree ds n < past_all tree ds
tree_below tree [] n few = absurd (omega (arith, few))
tree_below tree (d ∷ ds) zero few = omega (arith, past_above d tree, past_up (past_table d tree) ds)
tree_below tree (d ∷ ds) (suc n) few = tree_below (past_table d tree) ds n (omega (arith, few))

-- a parent that is none of a list is one of what stands behind it
found_behind : (name : List ℕ) (tree : ℕ) (ds : List Description) (more : List Table) → AllByRecursion (λ (d : Description). same_name d.name name ≡ false) ds
    → find (λ (t : Table). same_name t.name name) (tables_from tree ds ++ more) ≡ find (λ (t : Table). same_name t.name name) more
found_behind name tree [] more all = refl
found_behind name tree (d ∷ ds) more all = rw all.0 (found_behind name (past_table d tree) ds more all.1)

-- no table behind a list has a tree below this one
abbrev AreAbove : ℕ → List Table → Type 0
AreAbove past ts = AllByRecursion (λ (t : Table). past ≤ t.tree) ts

found_above : (p : Table → Bool) (past : ℕ) (ts : List Table) → AreAbove past ts → (t : Table) → find p ts ≡ Some t → past ≤ t.tree
found_above p past [] all t is = absurd (let e = is in cc)
found_above p past (u ∷ ts) all t is = go (p u) is (found_above p past ts all.1 t)
  where
    go : (b : Bool) → (if b then Some u else find p ts) ≡ Some t → (find p ts ≡ Some t → past ≤ t.tree) → past ≤ t.tree
    go true e later = let same : u ≡ t = cc in subst (λ (v : Table). past ≤ v.tree) same all.0
    go false e later = later e

key_above : (past : ℕ) (ref : Reference) (o : Option Table) → ((t : Table) → o ≡ Some t → past ≤ t.tree) → (key : ParentKey)
    → option_and_then (λ t. option_and_then (key_in t) (key_places t ref.parent_columns)) o ≡ Some key → past ≤ key.0
key_above past ref None above key is = absurd (let e = is in cc)
key_above past ref (Some t) above key is = places (key_places t ref.parent_columns) is
  where
    ordered : (places : List ℕ) (r : Option Order) → option_map (λ o. (t.tree, places, o)) r ≡ Some key → past ≤ key.0
    ordered places None e = absurd (let f = e in cc)
    ordered places (Some o) e = let same : t.tree ≡ key.0 = cc in subst (λ n. past ≤ n) same (above t refl)

    places : (p : Option (List ℕ)) → option_and_then (key_in t) p ≡ Some key → past ≤ key.0
    places None e = absurd (let f = e in cc)
    places (Some ps) e = ordered ps _ e

module _ (ds : List Description) (further : Schema) (place : ℕ) (few : place < length ds) (behind : AllByRecursion (IsFurther ds) further.tables) where
  abbrev here : ℕ
  here = tree_from 0 ds place

  above : AreAbove (past_all 0 ds) further.tables
  above = go further.tables behind
    where
      go : (ts : List Table) → AllByRecursion (IsFurther ds) ts → AreAbove (past_all 0 ds) ts
      go [] all = tt
      go (t ∷ ts) all = (all.0.behind, go ts all.1)

  no_work : (child : Table) (olds news : List Row) (ref : Reference) → AllByRecursion (λ (d : Description). same_name d.name ref.parent ≡ false) ds → work_for (followed ds further) Enforced 0 here olds news child ref ≡ None
  no_work child olds news ref other = go (deed_for Enforced (length news == 0) ref) (parent_key (followed ds further).tables ref) refl
    where
      go : (deed : Option Deed) (key : Option ParentKey) → parent_key (followed ds further).tables ref ≡ key → work_by 0 here (pairs olds news) child ref deed key ≡ None
      go None key is = refl
      go (Some deed) None is = refl
      go (Some deed) (Some key) is =
          let at = subst (λ o. option_and_then (λ t. option_and_then (key_in t) (key_places t ref.parent_columns)) o ≡ Some key) (found_behind ref.parent 0 ds further.tables other) is in
          let up = key_above (past_all 0 ds) ref _ (λ t found. found_above _ (past_all 0 ds) further.tables above t found) key at in
          elim (eqb_tells key.0 here) [ inl same ↦ absurd (omega (arith, up, tree_below 0 ds place few, same.1)) | inr apart ↦ rw apart.0 refl ]

  no_works : (child : Table) (olds news : List Row) (refs : List Reference) → AllByRecursion (λ (r : Reference). AllByRecursion (λ (d : Description). same_name d.name r.parent ≡ false) ds) refs
      → filter_map (work_for (followed ds further) Enforced 0 here olds news child) refs ≡ []
  no_works child olds news [] all = refl
  no_works child olds news (r ∷ refs) all = rw (no_work child olds news r all.0) (no_works child olds news refs all.1)

  none_by : (olds news : List Row) (ts : List Table) → AllByRecursion (IsFurther ds) ts → flat_map (λ (child : Table). filter_map (work_for (followed ds further) Enforced 0 here olds news child) child.references) ts ≡ []
  none_by olds news [] all = refl
  none_by olds news (t ∷ ts) all = rw (no_works t olds news t.references all.0.apart) (none_by olds news ts all.1)

  none_of_ours : (olds news : List Row) (tree : ℕ) (es : List Description) (more : List Table) → flat_map (λ (child : Table). filter_map (work_for (followed ds further) Enforced 0 here olds news child) child.references) more ≡ []
      → flat_map (λ (child : Table). filter_map (work_for (followed ds further) Enforced 0 here olds news child) child.references) (tables_from tree es ++ more) ≡ []
  none_of_ours olds news tree [] more none = none
  none_of_ours olds news tree (e ∷ es) more none = none_of_ours olds news (past_table e tree) es more none

  -- no action waits on a row of a table of the list
  pub unreferenced : (olds news : List Row) → works (followed ds further) Enforced 0 here olds news ≡ []
  unreferenced olds news = none_of_ours olds news 0 ds further.tables (none_by olds news further.tables behind)
