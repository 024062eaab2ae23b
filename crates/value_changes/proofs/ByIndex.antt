-- The items of two arrays, by their indices.
use Rattle.std.proofs.Common.{◌≡◌, ◌≢◌, ◌⊎◌, inl, inr, ℕ, zero, suc, ◌<◌, ◌≤◌, List, [], ◌∷◌, Option, Some, None, option_map, length, slice_get, MatchOption, Bor, refl, sym, subst, ap, ap₂, ◌∙◌, arith}
use Rattle.std.specs.List.{HoldsAt}
use Rattle.std.proofs.lemmas.Bool.{cases_lt}
use Rattle.std.proofs.lemmas.Option.{slice_get_past, slice_get-get_or}
use Rattle.canonical_json.specs.Json.{Json, array, Items, no_items, item}
use Rattle.canonical_json.specs.View.{view, items_view}
use Rattle.canonical_json.specs.declared.Value.{Value}
use Rattle.value_changes.specs.Changes.{Step, at_name, at_index, item_at, inside, IsObject, AreEntered, Has}
use Rattle.value_changes.specs.steps.Turns.{Turn, numbered}
use Rattle.value_changes.proofs.Listed.{has_part, has_left, has_right}
use Rattle.value_changes.proofs.Covering.{Covers}

abbrev numbered_turn : Items → Items → ℕ → Turn
numbered_turn vs ws i = record { step = at_index i; one = item_at i vs; other = item_at i ws }

right_item : (vs ws : Items) (n : ℕ) (t : Turn) → Has (numbered vs ws n) t → (i : ℕ) × (i < n) × (t ≡ numbered_turn vs ws i)
right_item vs ws zero t has = absurd has
right_item vs ws (suc n) t has =
    elim (has_part (numbered vs ws n) (numbered_turn vs ws n ∷ []) t has) [
      | inl l ↦ let r = right_item vs ws n t l in let less = r.1 in (r.0, omega arith, r.2)
      | inr r ↦ elim r [ inl e ↦ (n, omega arith, e) | inr none ↦ absurd none ]
    ]

all_items : (vs ws : Items) (n i : ℕ) → i < n → Has (numbered vs ws n) (numbered_turn vs ws i)
all_items vs ws zero i less = absurd (omega arith)
all_items vs ws (suc n) i less =
    elim (cases_lt i n) [
      | inl sooner ↦ has_left (numbered vs ws n) (numbered_turn vs ws n ∷ []) (numbered_turn vs ws i) (all_items vs ws n i sooner)
      | inr later ↦ let same : i ≡ n = omega arith in has_right (numbered vs ws n) (numbered_turn vs ws n ∷ []) (numbered_turn vs ws i) (inl (ap (numbered_turn vs ws) same))
    ]

same_index : (i j : ℕ) → at_index i ≡ at_index j → i ≡ j
same_index i j e = cc

-- the item of the next index has another step
pub index_fresh : (vs ws : Items) (n : ℕ) (u : Turn) → Has (numbered vs ws n) u → u.step ≢ at_index n
index_fresh vs ws n u has e =
    let r = right_item vs ws n u has in
    let less = r.1 in
    let same = same_index r.0 n (ap (λ (x : Turn). x.step) (sym r.2) ∙ e) in
    absurd (omega arith)

-- ---- indices past the end

abbrev pub count : Items → ℕ
count no_items = 0
count (item v vs) = suc (count vs)

past_end : (vs : Items) (i : ℕ) → count vs ≤ i → item_at i vs ≡ None
past_end no_items i h = refl
past_end (item v vs) zero h = absurd (omega arith)
past_end (item v vs) (suc i) h = past_end vs i (omega arith)

pub count-view : (vs : List Value) → count (items_view vs) ≡ length vs
count-view [] = refl
count-view (v ∷ vs) = ap suc (count-view vs)

pub item_at-view : (vs : List Value) (i : ℕ) → item_at i (items_view vs) ≡ option_map view (slice_get vs i)
item_at-view [] i = refl
item_at-view (v ∷ vs) zero = refl
item_at-view (v ∷ vs) (suc i) = item_at-view vs i

-- what a slice answers at an index
pub item_lookup : (vs : List Value) (i : ℕ) (r : Option (Bor Value)) → MatchOption r (length vs ≤ i) (λ x. (i < length vs) × HoldsAt (λ y. x.now ≡ y) vs i) → option_map (λ v. view v.now) r ≡ item_at i (items_view vs)
item_lookup vs i None h = sym (item_at-view vs i ∙ ap (option_map view) (slice_get_past vs i h))
item_lookup vs i (Some x) h = sym (item_at-view vs i ∙ ap (option_map view) (slice_get-get_or vs i x.now h.0 ∙ ap Some (sym (h.1 x.now))))

some_same : (v w : Json) → ◌≡◌ {A = Option Json} (Some v) (Some w) → v ≡ w
some_same v w e = cc

none_some : (v : Json) → ◌≡◌ {A = Option Json} None (Some v) → ⊥
none_some v e = cc

items_equal : (vs ws : Items) → ((i : ℕ) → item_at i vs ≡ item_at i ws) → vs ≡ ws
items_equal no_items no_items h = refl
items_equal no_items (item w ws) h = absurd (none_some w (h 0))
items_equal (item v vs) no_items h = absurd (none_some v (sym (h 0)))
items_equal (item v vs) (item w ws) h = ap₂ item (some_same v w (h 0)) (items_equal vs ws (λ i. h (suc i)))

-- ---- as parts of what is walked

array_object : (vs : Items) → IsObject (Some (array vs)) → ⊥
array_object vs h = let e = h.1 in cc

pub items_cover : (vs ws : Items) (n : ℕ) → count vs ≤ n → count ws ≤ n → Covers (Some (array vs)) (Some (array ws)) (numbered vs ws n)
items_cover vs ws n left right = record {
  entered = λ t has. let r = right_item vs ws n t has in subst (λ (x : Turn). AreEntered x.step (Some (array vs)) (Some (array ws)) × (x.one ≡ inside x.step (Some (array vs))) × (x.other ≡ inside x.step (Some (array ws)))) (sym r.2) (((vs, refl), (ws, refl)), refl, refl);
  all = all_steps;
  equal = λ agree. ap (λ xs. Some (array xs)) (items_equal vs ws (same_at agree));
  not_whole = λ w. w.no_arrays (vs, refl) (ws, refl);
}
  where
    both_past : (i : ℕ) → n ≤ i → item_at i vs ≡ item_at i ws
    both_past i h = past_end vs i (omega arith) ∙ sym (past_end ws i (omega arith))

    same_at : ((t : Turn) → Has (numbered vs ws n) t → t.one ≡ t.other) → (i : ℕ) → item_at i vs ≡ item_at i ws
    same_at agree i = elim (cases_lt i n) [ inl less ↦ agree (numbered_turn vs ws i) (all_items vs ws n i less) | inr past ↦ both_past i past ]

    all_steps : (s : Step) → AreEntered s (Some (array vs)) (Some (array ws))
        → Has (numbered vs ws n) (record { step = s; one = inside s (Some (array vs)); other = inside s (Some (array ws)) }) ⊎ (inside s (Some (array vs)) ≡ inside s (Some (array ws)))
    all_steps (at_name k) e = absurd (array_object vs e.0)
    all_steps (at_index i) e = elim (cases_lt i n) [ inl less ↦ inl (all_items vs ws n i less) | inr past ↦ inr (both_past i past) ]
