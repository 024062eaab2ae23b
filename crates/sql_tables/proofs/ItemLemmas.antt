-- Items that are read from rows, in any order or by their keys.
use Rattle.std.proofs.Common.{◌≡◌, ◌≢◌, ◌⊎◌, inl, inr, ℕ, List, [], ◌∷◌, ◌++◌, refl, sym, ap, subst, ◌<◌, pos, map, true, subst₂, ◌∙◌}
use Rattle.sqlite.specs.Order.{Row, value_cmp}
use Rattle.sqlite_rules.specs.Lists.{Has}
use Rattle.sqlite_rules.proofs.ListLemmas.{has_left, has_right, has_either, all_has}
use Rattle.sql_tables.specs.Loading.{AreRead, AreSpoiled, AreLoaded}
use Rattle.std.specs.List.Sorted.{IsStrictlySortedBy}
use Rattle.std.specs.Ordering.{nat_cmp, is_lt, int_cmp, ordering_then, ordering_reverse}
use Rattle.std.proofs.lemmas.Bool.{lt-ltb}
use Rattle.std.specs.Cmp.Lexicographic.{slice_cmp}
use Rattle.std.specs.declared.cmp.Ordering.{Ordering}
use Rattle.std.specs.declared.cmp.Ordering.TheVariants.{Less, Equal, Greater}
use Rattle.sqlite_value.proofs.OrderLemmas.{value_cmp-Int, value_cmp-Text}
use Rattle.sqlite.specs.declared.types.Value.{Value}
use Rattle.sqlite.specs.declared.types.Value.TheVariants.{Int, Text, Blob}
use Rattle.sql_tables.specs.Rows.{AreKeyed}
use Rattle.std.specs.Cmp.{IsTotalOrder, ranks}
use Rattle.std.proofs.lemmas.Cmp.{tied_itself, int_cmp_total, by_ranked}
use Rattle.sql_tables.proofs.RowLemmas.{has_map}

module _ {K V : Type 0} (Reads : Row → K × V → Type 0) (Fits : K × V → Type 0) where
  pub read_none : AreRead Reads Fits [] []
  read_none = record { from = λ x none. absurd none; each = λ r none. absurd none; fit = λ x none. absurd none }

  pub read_more : (rows : List Row) (items news : List (K × V)) (r : Row) (x : K × V) → AreRead Reads Fits rows items → Reads r x → Fits x
      → ((z : K × V) → Has news z → Has items z ⊎ (z ≡ x)) → ((z : K × V) → Has items z → Has news z) → Has news x → AreRead Reads Fits (rows ++ r ∷ []) news
  read_more rows items news r x all reads fits old kept new = record {
    from = λ z h. elim (old z h) [
      | inl was ↦ let it = all.from z was in (it.0, has_left rows _ it.0 it.1, it.2)
      | inr is ↦ (r, has_right rows _ r (inl refl), subst (Reads r) (sym is) reads)
    ];
    each = λ s h. elim (has_either rows (r ∷ []) s h) [
      | inl was ↦ let it = all.each s was in (it.0, kept it.0 it.1, it.2)
      | inr (inl is) ↦ (x, new, subst (λ q. Reads q x) (sym is) reads)
      | inr (inr none) ↦ absurd none
    ];
    fit = λ z h. elim (old z h) [ inl was ↦ all.fit z was | inr is ↦ subst Fits (sym is) fits ];
  }

  -- what is spoiled stays so
  pub spoiled_more : (rows : List Row) (r : Row) → AreSpoiled Reads Fits rows → AreSpoiled Reads Fits (rows ++ r ∷ [])
  spoiled_more rows r (inl bad) = inl (bad.0, has_left rows _ bad.0 bad.1, bad.2)
  spoiled_more rows r (inr bad) = inr (bad.0, bad.1, bad.2, bad.3, has_left rows _ bad.0 bad.4, has_left rows _ bad.1 bad.5, bad.6, bad.7, bad.8, bad.9, bad.10, bad.11)

  pub spoiled_row : (rows : List Row) (r : Row) → ((x : K × V) → Fits x → Reads r x → ⊥) → AreSpoiled Reads Fits (rows ++ r ∷ [])
  spoiled_row rows r bad = inl (r, has_right rows _ r (inl refl), bad)

  pub spoiled_slot : (rows : List Row) (items : List (K × V)) (r : Row) (k : K) (v y : V) → AreRead Reads Fits rows items → Has items (k, y) → Reads r (k, v) → Fits (k, v) → v ≢ y → AreSpoiled Reads Fits (rows ++ r ∷ [])
  spoiled_slot rows items r k v y all has reads fits other =
      let s = all.from (k, y) has in
      inr (r, s.0, (k, v), (k, y), has_right rows _ r (inl refl), has_left rows _ s.0 s.1, reads, s.2, fits, all.fit (k, y) has, refl, λ e. other (ap (λ (w : K × V). w.1) e))

pub int_one : (m n : ℕ) (v : Value) → v ≡ Int (pos m) → v ≡ Int (pos n) → m ≡ n
int_one m n v a b = let e : Int (pos m) ≡ Int (pos n) = sym a ∙ b in let f : pos m ≡ pos n = cc in cc

pub text_one : (s t : List ℕ) (v : Value) → v ≡ Text s → v ≡ Text t → s ≡ t
text_one s t v a b = let e : Text s ≡ Text t = sym a ∙ b in cc

pub bytes_one : (s t : List ℕ) (v : Value) → v ≡ Blob s → v ≡ Blob t → s ≡ t
bytes_one s t v a b = let e : Blob s ≡ Blob t = sym a ∙ b in cc

pub after_less : (o p : Ordering) → o ≡ Less → is_lt (ordering_then o p) ≡ true
after_less Less p e = refl
after_less Equal p e = absurd (let f = e in cc)
after_less Greater p e = absurd (let f = e in cc)

pub int_below : (m n : ℕ) → m < n → int_cmp (pos m) (pos n) ≡ Less
int_below m n below = rw (lt-ltb m n below) refl

pub int_same : (m n : ℕ) → m ≡ n → int_cmp (pos m) (pos n) ≡ Equal
int_same m n same = ap (λ (k : ℕ). int_cmp (pos k) (pos n)) same ∙ tied_itself int_cmp_total (pos n)

pub int_above : (m n : ℕ) → n < m → int_cmp (pos m) (pos n) ≡ Greater
int_above m n above = int_cmp_total.antisymm (pos m) (pos n) ∙ ap ordering_reverse (int_below n m above)

pub int_nat : (m n : ℕ) → int_cmp (pos m) (pos n) ≡ nat_cmp m n
int_nat m n = by_ranked (m < n) (m ≡ n) (n < m) {G = int_cmp (pos m) (pos n) ≡ nat_cmp m n} (nat_cmp m n) (ranks m n) (λ is below. int_below m n below ∙ sym is) (λ is same. int_same m n same ∙ sym is) (λ is above. int_above m n above ∙ sym is)

pub int_less : (a b : Value) (m n : ℕ) → a ≡ Int (pos m) → b ≡ Int (pos n) → value_cmp a b ≡ nat_cmp m n
int_less a b m n x y = subst₂ (λ v w. value_cmp v w ≡ nat_cmp m n) (sym x) (sym y) (value_cmp-Int (pos m) (pos n) ∙ int_nat m n)

pub text_less : (a b : Value) (s t : List ℕ) → a ≡ Text s → b ≡ Text t → value_cmp a b ≡ slice_cmp nat_cmp s t
text_less a b s t x y = subst₂ (λ v w. value_cmp v w ≡ slice_cmp nat_cmp s t) (sym x) (sym y) (value_cmp-Text s t)

pub pair_less : (o p q : Ordering) → ordering_then o p ≡ Less → is_lt (ordering_then o (ordering_then p q)) ≡ true
pair_less Less p q e = refl
pair_less Equal p q e = after_less p q e
pair_less Greater p q e = absurd (let f = e in cc)

pub no_member : {X : Type 0} (xs : List X) → ((x : X) → Has xs x → ⊥) → xs ≡ []
no_member [] none = refl
no_member (x ∷ xs) none = absurd (none x (inl refl))

-- a table of which no item was read is empty
pub none_stored : {K V : Type 0} {shown : Row → Row} {Reads : Row → K × V → Type 0} {Fits : K × V → Type 0} (keys : _) (stored rows : List Row) (items : List (K × V)) → AreLoaded shown keys stored rows → AreRead Reads Fits rows items → items ≡ [] → stored ≡ []
none_stored {shown = shown} keys stored rows items l read none = no_member stored (λ s h. let it = read.each (shown s) (l.each s h) in subst (λ xs. Has xs it.0) none it.1)

pub none_answered : {shown : Row → Row} (keys : _) (stored rows : List Row) → AreLoaded shown keys stored rows → rows ≡ [] → stored ≡ []
none_answered {shown} keys stored rows l none = no_member stored (λ s h. subst (λ xs. Has xs (shown s)) none (l.each s h))

pub none_read : {K V : Type 0} {shown : Row → Row} {Reads : Row → K × V → Type 0} {Fits : K × V → Type 0} (keys : _) (stored rows : List Row) (items : List (K × V)) → AreLoaded shown keys stored rows → AreRead Reads Fits rows items → stored ≡ [] → items ≡ []
none_read keys stored rows items l read none = no_member items (λ x h. let r = read.from x h in let s = l.from r.0 r.1 in subst (λ xs. Has xs s.0) none s.1)

pub spoiled_has : {K V : Type 0} (Reads : Row → K × V → Type 0) (Fits : K × V → Type 0) (rows : List Row) → AreSpoiled Reads Fits rows → (r : Row) × Has rows r
spoiled_has Reads Fits rows (inl bad) = (bad.0, bad.1)
spoiled_has Reads Fits rows (inr bad) = (bad.0, bad.4)

pub not_bare : {K V : Type 0} {shown : Row → Row} (keys : _) (Reads : Row → K × V → Type 0) (Fits : K × V → Type 0) (stored rows : List Row) → AreLoaded shown keys stored rows → AreSpoiled Reads Fits rows → stored ≡ [] → ⊥
not_bare keys Reads Fits stored rows l bad none =
    let r = spoiled_has Reads Fits rows bad in
    let s = l.from r.0 r.1 in
    subst (λ xs. Has xs s.0) none s.1

module _ {K V : Type 0} (cmp : K → K → Ordering) (order : IsTotalOrder cmp) where
  pub rising_keyed : (xs : List (K × V)) → IsStrictlySortedBy cmp (map (λ x. x.0) xs) → AreKeyed xs
  unfolding IsStrictlySortedBy
  rising_keyed [] up x y in_x in_y same = absurd in_x
  rising_keyed (z ∷ xs) up x y (inl a) (inl b) same = a ∙ sym b
  rising_keyed (z ∷ xs) up x y (inl a) (inr b) same = absurd (less_itself y.0 (subst (λ k. cmp k y.0 ≡ Less) (ap (λ (w : K × V). w.0) (sym a) ∙ same) (all_has (λ k. cmp z.0 k ≡ Less) (map (λ x. x.0) xs) y.0 up.0 (has_map (λ x. x.0) xs y b))))
    where
      less_itself : (k : K) → cmp k k ≡ Less → ⊥
      less_itself k less = let e = sym less ∙ tied_itself order k in cc
  rising_keyed (z ∷ xs) up x y (inr a) (inl b) same = absurd (less_itself x.0 (subst (λ k. cmp k x.0 ≡ Less) (ap (λ (w : K × V). w.0) (sym b) ∙ sym same) (all_has (λ k. cmp z.0 k ≡ Less) (map (λ x. x.0) xs) x.0 up.0 (has_map (λ x. x.0) xs x a))))
    where
      less_itself : (k : K) → cmp k k ≡ Less → ⊥
      less_itself k less = let e = sym less ∙ tied_itself order k in cc
  rising_keyed (z ∷ xs) up x y (inr a) (inr b) same = rising_keyed xs up.1 x y a b same
