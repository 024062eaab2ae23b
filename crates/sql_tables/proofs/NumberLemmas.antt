-- The rowids of a table come once, and are integers.
use Rattle.std.proofs.Common.{◌≡◌, inl, inr, ℕ, ℤ, List, [], ◌∷◌, Bool, true, false, map, refl, sym, ap, subst, ◌∙◌, true≢false}
use Rattle.std.specs.List.{AllByRecursion, IsDistinct}
use Rattle.std.specs.List.Sorted.{IsPermutation}
use Rattle.std.specs.Ordering.{int_cmp, is_eq, is_lt, ordering_reverse}
use Rattle.std.specs.declared.cmp.Ordering.{Ordering}
use Rattle.std.specs.declared.cmp.Ordering.TheVariants.{Less, Equal, Greater}
use Rattle.std.proofs.lemmas.Bool.{and_parts}
use Rattle.std.proofs.lemmas.Cmp.{tied_itself, int_cmp_total}
use Rattle.std.proofs.lemmas.List.Sorted.{Contains-permutation, IsPermutation-map, IsPermutation-sym, IsPermutation-trans}
use Rattle.std.proofs.lemmas.Map.Keys.{IsDistinct-IsPermutation}
use Rattle.sqlite.specs.declared.types.Value.{Value}
use Rattle.sqlite.specs.declared.types.Value.TheVariants.{Int}
use Rattle.sqlite.specs.Order.{Row, column, value_cmp}
use Rattle.sqlite_value.proofs.OrderLemmas.{value_cmp_total, value_cmp-Int}
use Rattle.sqlite_trees.specs.Tree.{rowid}
use Rattle.sqlite_trees.proofs.ListLemmas.{map-map}
use Rattle.sqlite_rules.specs.Lists.{Has}
use Rattle.sqlite_rules.proofs.ListLemmas.{all_has, contains_had, has_contained}
use Rattle.sql_tables.specs.Loading.{ComeOnce, comes_first, rise}
use Rattle.sql_tables.proofs.RowLemmas.{has_map, map_has}

-- the rowids of these rows are integers, and come once
pub record IsNumbered (rows : List Row) : Type 0 where
  pub keyed : (x y : Row) → Has rows x → Has rows y → rowid x ≡ rowid y → x ≡ y
  pub numbered : (x : Row) → Has rows x → (n : ℤ) × (rowid x ≡ Int n)

abbrev is_same : Value → Value → Bool
is_same v w = is_eq (value_cmp v w)

eq_flips : (o : Ordering) → is_eq (ordering_reverse o) ≡ is_eq o
eq_flips Less = refl
eq_flips Equal = refl
eq_flips Greater = refl

flips : (v w : Value) → is_same v w ≡ is_same w v
flips v w = ap is_eq (value_cmp_total.antisymm v w) ∙ eq_flips (value_cmp w v)

less_is : (o : Ordering) → is_lt o ≡ true → o ≡ Less
less_is Less h = refl
less_is Equal h = absurd (cc)
less_is Greater h = absurd (cc)

-- what is below the first is below each
below_each : (id : ℤ) (ids : List ℤ) → comes_first id ids ≡ true → rise ids ≡ true → AllByRecursion (λ n. is_same (Int id) n ≡ false) (map Int ids)
below_each id [] first up = tt
below_each id (n ∷ ids) first up =
    let p = and_parts (comes_first n ids) (rise ids) up in
    let less : int_cmp id n ≡ Less = less_is _ first in
    (ap is_eq (value_cmp-Int id n ∙ less), below_each id ids (still n ids p.0 less) p.1)
  where
    still : (n : ℤ) (ids : List ℤ) → comes_first n ids ≡ true → int_cmp id n ≡ Less → comes_first id ids ≡ true
    still n [] first less = refl
    still n (m ∷ ids) first less = ap is_lt (int_cmp_total.trans id n m less (less_is _ first))

distinct_ints : (ids : List ℤ) → rise ids ≡ true → IsDistinct is_same (map Int ids)
unfolding IsDistinct
distinct_ints [] up = tt
distinct_ints (id ∷ ids) up =
    let p = and_parts (comes_first id ids) (rise ids) up in
    (below_each id ids p.0 p.1, distinct_ints ids p.1)

apart : (v : Value) (vs : List Value) → AllByRecursion (λ n. is_same v n ≡ false) vs → Has vs v → ⊥
apart v vs all has = true≢false (sym (ap is_eq (tied_itself value_cmp_total v)) ∙ all_has (λ n. is_same v n ≡ false) vs v all has)

keyed_by : (rows : List Row) → IsDistinct is_same (map rowid rows) → (x y : Row) → Has rows x → Has rows y → rowid x ≡ rowid y → x ≡ y
unfolding IsDistinct
keyed_by [] d x y in_x in_y same = absurd in_x
keyed_by (r ∷ rows) d x y (inl a) (inl b) same = a ∙ sym b
keyed_by (r ∷ rows) d x y (inl a) (inr b) same = absurd (apart (rowid r) (map rowid rows) d.0 (subst (Has (map rowid rows)) (sym same ∙ ap rowid a) (has_map rowid rows y b)))
keyed_by (r ∷ rows) d x y (inr a) (inl b) same = absurd (apart (rowid r) (map rowid rows) d.0 (subst (Has (map rowid rows)) (same ∙ ap rowid b) (has_map rowid rows x a)))
keyed_by (r ∷ rows) d x y (inr a) (inr b) same = keyed_by rows d.1 x y a b same

-- what the rowids of an answer say of the table
pub numbered_by : (shown : Row → Row) (at : ℕ) → ((r : Row) → column (shown r) at ≡ rowid r) → (stored rows : List Row) → IsPermutation (map shown stored) rows → ComeOnce at rows → IsNumbered stored
numbered_by shown at is stored rows same once =
    let ids = once.0 in
    let cell = λ (r : Row). column r at in
    let named : map cell (map shown stored) ≡ map rowid stored = map-map cell shown stored ∙ ap (λ f. map f stored) (λ i r. is r i) in
    let moved : IsPermutation (map rowid stored) (map Int ids) = IsPermutation-trans _ _ _ (subst (λ vs. IsPermutation vs (map cell rows)) named (IsPermutation-map cell _ _ same)) once.1 in
    record {
      keyed = keyed_by stored (IsDistinct-IsPermutation is_same flips (map Int ids) (map rowid stored) (IsPermutation-sym _ _ moved) (distinct_ints ids once.2));
      numbered = λ x h.
          let has = has_contained _ _ (Contains-permutation _ _ (rowid x) moved (contains_had _ _ (has_map rowid stored x h))) in
          let n = map_has Int ids (rowid x) has in
          (n.0, n.2);
    }
