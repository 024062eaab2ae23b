-- Items that are read from rows in any order, and the two slots of `current`.
use Rattle.std.proofs.Common.{◌≡◌, ◌⊎◌, inl, inr, ℕ, List, [], ◌∷◌, ◌++◌, Option, Some, None, refl, sym, subst, codes, Bool, true, false, not}
use Rattle.sqlite.specs.Order.{Row}
use Rattle.sqlite_rules.specs.Lists.{Has}
use Rattle.sqlite_rules.proofs.ListLemmas.{has_left, has_right, has_either}
use Rattle.table_rows.specs.steps.Loading.{IsSlotRow, FitsSlot, slot_items, current_items, HaveSlots, AreAll, IsOf}
use Rattle.sql_tables.specs.Loading.{AreRead, AreSpoiled}
use Rattle.sql_tables.proofs.ItemLemmas.{read_more}

abbrev Slots : Type 0
Slots = Option (ℕ × List ℕ)

abbrev timestamp_slot : List ℕ
timestamp_slot = codes "timestamp"

abbrev snapshot_slot : List ℕ
snapshot_slot = codes "snapshot"

abbrev AreSlots : List Row → Slots → Slots → Type 0
AreSlots rows a b = AreRead IsSlotRow FitsSlot rows (current_items a b)

pub filled_timestamp : (rows : List Row) (r : Row) (a new b : Slots) (v : ℕ × List ℕ) → AreSlots rows a b → IsSlotRow r (timestamp_slot, v) → FitsSlot (timestamp_slot, v) → new ≡ Some v → (a ≡ None) ⊎ (a ≡ Some v)
    → AreSlots (rows ++ r ∷ []) new b
filled_timestamp rows r a new b v all reads fits is was = subst (λ (n : Slots). AreSlots (rows ++ r ∷ []) n b) (sym is) (go was)
  where
    go : (a ≡ None) ⊎ (a ≡ Some v) → AreSlots (rows ++ r ∷ []) (Some v) b
    go (inl empty) = read_more IsSlotRow FitsSlot rows (slot_items snapshot_slot b) (current_items (Some v) b) r (timestamp_slot, v) (subst (λ (n : Slots). AreSlots rows n b) empty all) reads fits
        (λ z h. elim h [ inl here ↦ inr here | inr later ↦ inl later ]) (λ z h. inr h) (inl refl)
    go (inr held) = read_more IsSlotRow FitsSlot rows (current_items (Some v) b) (current_items (Some v) b) r (timestamp_slot, v) (subst (λ (n : Slots). AreSlots rows n b) held all) reads fits
        (λ z h. inl h) (λ z h. h) (inl refl)

pub filled_snapshot : (rows : List Row) (r : Row) (a b new : Slots) (v : ℕ × List ℕ) → AreSlots rows a b → IsSlotRow r (snapshot_slot, v) → FitsSlot (snapshot_slot, v) → new ≡ Some v → (b ≡ None) ⊎ (b ≡ Some v)
    → AreSlots (rows ++ r ∷ []) a new
filled_snapshot rows r a b new v all reads fits is was = subst (λ (n : Slots). AreSlots (rows ++ r ∷ []) a n) (sym is) (go was)
  where
    front : List (List ℕ × (ℕ × List ℕ))
    front = slot_items timestamp_slot a

    go : (b ≡ None) ⊎ (b ≡ Some v) → AreSlots (rows ++ r ∷ []) a (Some v)
    go (inl empty) = read_more IsSlotRow FitsSlot rows (front ++ []) (front ++ (snapshot_slot, v) ∷ []) r (snapshot_slot, v) (subst (λ (n : Slots). AreSlots rows a n) empty all) reads fits
        (λ z h. elim (has_either front _ z h) [ inl early ↦ inl (has_left front [] z early) | inr (inl here) ↦ inr here | inr (inr none) ↦ absurd none ])
        (λ z h. elim (has_either front [] z h) [ inl early ↦ has_left front _ z early | inr none ↦ absurd none ])
        (has_right front _ _ (inl refl))
    go (inr held) = read_more IsSlotRow FitsSlot rows (current_items a (Some v)) (current_items a (Some v)) r (snapshot_slot, v) (subst (λ (n : Slots). AreSlots rows a n) held all) reads fits
        (λ z h. inl h) (λ z h. h) (has_right front _ _ (inl refl))

-- each slot has at most one item
pub has_timestamp : (a b : Slots) (y : ℕ × List ℕ) → a ≡ Some y → Has (current_items a b) (timestamp_slot, y)
has_timestamp a b y is = subst (λ (n : Slots). Has (current_items n b) (timestamp_slot, y)) (sym is) (inl refl)

pub has_snapshot : (a b : Slots) (y : ℕ × List ℕ) → b ≡ Some y → Has (current_items a b) (snapshot_slot, y)
has_snapshot a b y is = subst (λ (n : Slots). Has (current_items a n) (snapshot_slot, y)) (sym is) (has_right (slot_items timestamp_slot a) _ _ (inl refl))

-- ---- one more row

set_not : (b : Bool) → not b ≡ false → b ≡ true
set_not true e = refl
set_not false e = absurd (let f = e in cc)

clear_not : (b : Bool) → not b ≡ true → b ≡ false
clear_not true e = absurd (let f = e in cc)
clear_not false e = refl

pub slots_more : (rows : List Row) (a b : Slots) (filled : Bool) → (filled ≡ true → AreSlots rows a b) → (filled ≡ false → AreSpoiled IsSlotRow FitsSlot rows) → HaveSlots rows a b (not filled)
slots_more rows a b filled whole bad = record { whole = λ e. whole (set_not filled e); spoiled = λ e. bad (clear_not filled e) }

-- the rows of `schema`

pub some_rows : (rows : List Row) (r : Row) → rows ++ r ∷ [] ≡ [] → ⊥
some_rows rows r e = subst (λ rs. Has rs r) e (has_right rows _ r (inl refl))

pub all_more : (n : ℕ) (rows : List Row) (r : Row) (were : Bool) → IsOf n r → AreAll n rows were → AreAll n (rows ++ r ∷ []) were
all_more n rows r were is all = record {
  each = λ e s h. elim (has_either rows (r ∷ []) s h) [ inl was ↦ all.each e s was | inr (inl same) ↦ subst (IsOf n) (sym same) is | inr (inr none) ↦ absurd none ];
  other = λ e. let it = all.other e in (it.0, has_left rows _ it.0 it.1, it.2);
}

pub all_other : (n : ℕ) (rows : List Row) (r : Row) → (IsOf n r → ⊥) → AreAll n (rows ++ r ∷ []) false
all_other n rows r bad = record {
  each = λ e. absurd (let f = e in cc);
  other = λ _. (r, has_right rows _ r (inl refl), bad);
}
