-- Items that are gathered from rows, for every table.
use Rattle.std.proofs.Common.{◌≡◌, ◌≢◌, ◌⊎◌, inl, inr, List, [], ◌∷◌, ◌++◌, map, refl, sym, ap, subst, ◌∙◌, Result, Ok, Err, Bool, true, false, append-nil}
use Rattle.std.specs.List.{AllByRecursion}
use Rattle.std.specs.List.Sorted.{IsStrictlySortedBy}
use Rattle.std.specs.declared.cmp.Ordering.{Ordering}
use Rattle.std.specs.declared.cmp.Ordering.TheVariants.{Less, Equal, Greater}
use Rattle.std.specs.Cmp.{IsTotalOrder}
use Rattle.std.specs.Result.{IsErrAnd}
use Rattle.std.specs.Ordering.{ordering_reverse}
use Rattle.std.proofs.lemmas.Cmp.{tied_itself}
use Rattle.std.proofs.lemmas.List.{map-append, append_assoc}
use Rattle.sqlite.specs.Order.{Row}
use Rattle.sqlite_value.specs.declared.keys.Key.{Key}
use Rattle.sqlite_rules.specs.Lists.{Has}
use Rattle.sqlite_rules.proofs.ListLemmas.{has_left, has_right, has_either}
use Rattle.sql_tables.specs.declared.items.Place.TheVariants.{Behind, Same, Neither}
use Rattle.sql_tables.specs.Rows.{AreRows, AreKeyed}
use Rattle.sql_tables.specs.Loading.{AreLoaded, AreRead, AreGathered, AreOrdered, AreSpoiled, IsPlace, HasGathered}
use Rattle.sql_tables.proofs.RowLemmas.{has_map, map_has}
use Rattle.sql_tables.proofs.NumberLemmas.{IsNumbered}
use Rattle.sql_tables.proofs.ItemLemmas.{read_none, spoiled_more, spoiled_row}

-- the fault that a `?` hands on
pub handed_on : {A E : Type 0} {x y : E} (r : Result A E) → IsErrAnd r (λ e. e ≡ x) → r ≡ Err y → x ≡ y
handed_on (Ok v) is same = absurd is
handed_on {x} {y} (Err e) is same = let inner : e ≡ y = cc in sym is ∙ inner

-- ---- lists that end alike

last_same : {X : Type 0} (xs ys : List X) (x y : X) → xs ++ x ∷ [] ≡ ys ++ y ∷ [] → x ≡ y
last_same [] [] x y e = cc
last_same [] (b ∷ []) x y e = absurd (let f = e in cc)
last_same [] (b ∷ c ∷ ys) x y e = absurd (let f = e in cc)
last_same (a ∷ []) [] x y e = absurd (let f = e in cc)
last_same (a ∷ c ∷ xs) [] x y e = absurd (let f = e in cc)
last_same (a ∷ xs) (b ∷ ys) x y e = last_same xs ys x y (let f = e in cc)

-- the keys up to the last, and one more
module _ {K : Type 0} (cmp : K → K → Ordering) (order : IsTotalOrder cmp) where
  rising_more : (ks : List K) (k : K) → IsStrictlySortedBy cmp ks → AllByRecursion (λ a. cmp a k ≡ Less) ks → IsStrictlySortedBy cmp (ks ++ k ∷ [])
  unfolding IsStrictlySortedBy
  rising_more [] k up below = (tt, tt)
  rising_more (a ∷ ks) k up below = (all_more ks up.0 below.0, rising_more ks k up.1 below.1)
    where
      all_more : (bs : List K) → AllByRecursion (λ b. cmp a b ≡ Less) bs → cmp a k ≡ Less → AllByRecursion (λ b. cmp a b ≡ Less) (bs ++ k ∷ [])
      all_more [] all here = (here, tt)
      all_more (b ∷ bs) all here = (all.0, all_more bs all.1 here)

  below_next : (ks : List K) (l k : K) → IsStrictlySortedBy cmp (ks ++ l ∷ []) → cmp l k ≡ Less → AllByRecursion (λ a. cmp a k ≡ Less) (ks ++ l ∷ [])
  unfolding IsStrictlySortedBy
  below_next [] l k up less = (less, tt)
  below_next (a ∷ ks) l k up less = (order.trans a l k (ends ks up.0) less, below_next ks l k up.1 less)
    where
      ends : (bs : List K) → AllByRecursion (λ b. cmp a b ≡ Less) (bs ++ l ∷ []) → cmp a l ≡ Less
      ends [] all = all.0
      ends (b ∷ bs) all = ends bs all.1

module _ {K : Type 0} (cmp : K → K → Ordering) (order : IsTotalOrder cmp) (exact : (a b : K) → cmp a b ≡ Equal → a ≡ b) where
  between : (a b : K) → cmp a b ≢ Less → cmp b a ≢ Less → a ≡ b
  between a b one two = exact a b (go (cmp a b) (cmp b a) (order.antisymm b a) one two)
    where
      go : (o p : Ordering) → p ≡ ordering_reverse o → o ≢ Less → p ≢ Less → o ≡ Equal
      go Less p is one two = absurd (one refl)
      go Equal p is one two = refl
      go Greater p is one two = absurd (two is)

module _ {K V : Type 0} (cmp : K → K → Ordering) (order : IsTotalOrder cmp) (exact : (a b : K) → cmp a b ≡ Equal → a ≡ b) (items init : List (K × V)) (y x : K × V) (split : items ≡ init ++ y ∷ []) where
  pub is_behind : cmp y.0 x.0 ≡ Less → IsPlace cmp items x Behind
  is_behind less i z other = let e : y ≡ z = last_same init i y z (sym split ∙ other) in ap (λ (w : K × V). cmp w.0 x.0) (sym e) ∙ less

  pub is_same : cmp y.0 x.0 ≡ Equal → y.1 ≡ x.1 → IsPlace cmp items x Same
  is_same equal same =
      let key = exact y.0 x.0 equal in
      let both : y ≡ x = λ i. (key i, same i) in
      (init, split ∙ ap (λ w. init ++ w ∷ []) both)

  pub is_other : cmp y.0 x.0 ≡ Equal → y.1 ≢ x.1 → IsPlace cmp items x Neither
  is_other equal other = (init, y, split, λ less. absurd (let e = sym less ∙ equal in cc), λ e. other (ap (λ (w : K × V). w.1) (sym e)))

  pub is_before : cmp y.0 x.0 ≡ Greater → IsPlace cmp items x Neither
  is_before greater = (
    init,
    y,
    split,
    λ less. absurd (let e = sym less ∙ greater in cc),
    λ e. absurd (let f : cmp y.0 x.0 ≡ Equal = ap (λ (w : K × V). cmp y.0 w.0) e ∙ tied_itself order y.0 in let g = sym greater ∙ f in cc),
  )

module _ {K V : Type 0} (cmp : K → K → Ordering) (order : IsTotalOrder cmp) (exact : (a b : K) → cmp a b ≡ Equal → a ≡ b) where
  module _ (Reads : Row → K × V → Type 0) (Fits : K × V → Type 0) where
    gathers_none : AreGathered cmp Reads Fits [] []
    unfolding IsStrictlySortedBy
    gathers_none = record {
      read = read_none Reads Fits;
      rising = tt;
      last = λ init y e. absurd (no_end init y e);
    }
      where
        no_end : (init : List (K × V)) (y : K × V) → [] ≡ init ++ y ∷ [] → ⊥
        no_end [] y e = let f = e in cc
        no_end (z ∷ init) y e = let f = e in cc

    gathers_more : (rows : List Row) (items : List (K × V)) (r : Row) (x : K × V) → AreGathered cmp Reads Fits rows items → Reads r x → Fits x → IsPlace cmp items x Behind
        → AreGathered cmp Reads Fits (rows ++ r ∷ []) (items ++ x ∷ [])
    gathers_more rows items r x all reads fits behind = record {
      read = record {
        from = λ z h. elim (has_either items (x ∷ []) z h) [
          | inl was ↦ let it = all.read.from z was in (it.0, has_left rows _ it.0 it.1, it.2)
          | inr (inl is) ↦ (r, has_right rows _ r (inl refl), subst (Reads r) (sym is) reads)
          | inr (inr none) ↦ absurd none
        ];
        each = λ s h. elim (has_either rows (r ∷ []) s h) [
          | inl was ↦ let it = all.read.each s was in (it.0, has_left items _ it.0 it.1, it.2)
          | inr (inl is) ↦ (x, has_right items _ x (inl refl), subst (λ q. Reads q x) (sym is) reads)
          | inr (inr none) ↦ absurd none
        ];
        fit = λ z h. elim (has_either items (x ∷ []) z h) [
          | inl was ↦ all.read.fit z was
          | inr (inl is) ↦ subst Fits (sym is) fits
          | inr (inr none) ↦ absurd none
        ];
      };
      rising = subst (IsStrictlySortedBy cmp) (sym (map-append (λ z. z.0) items (x ∷ []))) (rising_more cmp order (map (λ z. z.0) items) x.0 all.rising (below items all.rising behind));
      last = λ init y e. (rows, r, refl, subst (Reads r) (last_same items init x y e) reads);
    }
      where
        ended : (zs : List (K × V)) → (zs ≡ []) ⊎ ((init : List (K × V)) × (y : K × V) × (zs ≡ init ++ y ∷ []))
        ended [] = inl refl
        ended (z ∷ zs) = elim (ended zs) [
          | inl none ↦ inr ([], z, ap (λ ws. z ∷ ws) none)
          | inr it ↦ inr (z ∷ it.0, it.1, ap (λ ws. z ∷ ws) it.2)
        ]

        below : (zs : List (K × V)) → IsStrictlySortedBy cmp (map (λ z. z.0) zs) → IsPlace cmp zs x Behind → AllByRecursion (λ a. cmp a x.0 ≡ Less) (map (λ z. z.0) zs)
        below zs up place = elim (ended zs) [
          | inl none ↦ subst (λ ws. AllByRecursion (λ a. cmp a x.0 ≡ Less) (map (λ z. z.0) ws)) (sym none) tt
          | inr it ↦
              let cut : map (λ z. z.0) zs ≡ map (λ z. z.0) it.0 ++ it.1.0 ∷ [] = ap (map (λ z. z.0)) it.2 ∙ map-append (λ z. z.0) it.0 (it.1 ∷ []) in
              subst (AllByRecursion (λ a. cmp a x.0 ≡ Less)) (sym cut) (below_next cmp order (map (λ z. z.0) it.0) it.1.0 x.0 (subst (IsStrictlySortedBy cmp) cut up) (place it.0 it.1 it.2))
        ]

    gathers_same : (rows : List Row) (items : List (K × V)) (r : Row) (x : K × V) → AreGathered cmp Reads Fits rows items → Reads r x → IsPlace cmp items x Same
        → AreGathered cmp Reads Fits (rows ++ r ∷ []) items
    gathers_same rows items r x all reads same = record {
      read = record {
        from = λ z h. let it = all.read.from z h in (it.0, has_left rows _ it.0 it.1, it.2);
        each = λ s h. elim (has_either rows (r ∷ []) s h) [
          | inl was ↦ all.read.each s was
          | inr (inl is) ↦ (x, subst (λ zs. Has zs x) (sym same.1) (has_right same.0 _ x (inl refl)), subst (λ q. Reads q x) (sym is) reads)
          | inr (inr none) ↦ absurd none
        ];
        fit = all.read.fit;
      };
      rising = all.rising;
      last = λ init y e. (rows, r, refl, subst (Reads r) (last_same same.0 init x y (sym same.1 ∙ e)) reads);
    }

    spoiled_pair : (rows done rest : List Row) (items : List (K × V)) (r : Row) (x : K × V) → rows ≡ (done ++ r ∷ []) ++ rest → AreOrdered cmp Reads Fits rows → AreGathered cmp Reads Fits done items → Reads r x → Fits x
        → IsPlace cmp items x Neither → AreSpoiled Reads Fits rows
    spoiled_pair rows done rest items r x split ordered all reads fits neither =
        let init = neither.0 in
        let y = neither.1 in
        let l = all.last init y neither.2 in
        let has_y : Has items y = subst (λ zs. Has zs y) (sym neither.2) (has_right init _ y (inl refl)) in
        let fits_y = all.read.fit y has_y in
        let cut : rows ≡ l.0 ++ l.1 ∷ r ∷ rest = split ∙ append_assoc done (r ∷ []) rest ∙ ap (λ d. d ++ r ∷ rest) l.2 ∙ append_assoc l.0 (l.1 ∷ []) (r ∷ rest) in
        let not_less = ordered l.0 l.1 r rest y x cut l.3 reads fits_y fits in
        let key : x.0 ≡ y.0 = between cmp order exact x.0 y.0 not_less neither.3 in
        inr (
          r,
          l.1,
          x,
          y,
          subst (λ rs. Has rs r) (sym cut) (has_right l.0 _ r (inr (inl refl))),
          subst (λ rs. Has rs l.1) (sym cut) (has_right l.0 _ l.1 (inl refl)),
          reads,
          l.3,
          fits,
          fits_y,
          key,
          neither.4,
        )

    -- one more row

    ordered_less : (rows : List Row) (r : Row) → AreOrdered cmp Reads Fits (rows ++ r ∷ []) → AreOrdered cmp Reads Fits rows
    ordered_less rows r all before a b rest x y e = all before a b (rest ++ r ∷ []) x y (ap (λ d. d ++ r ∷ []) e ∙ append_assoc before (a ∷ b ∷ rest) (r ∷ []))

    module _ (rows : List Row) (items : List (K × V)) where
      abbrev Has_now : Bool → Type 0
      Has_now = HasGathered cmp Reads Fits rows items

      pub has_none : HasGathered cmp Reads Fits [] [] false
      has_none = record { whole = λ _. gathers_none; spoiled = λ e. absurd (let f = e in cc) }

      module _ (r : Row) where
        abbrev Has_next : Bool → Type 0
        Has_next = HasGathered cmp Reads Fits (rows ++ r ∷ []) items

        pub has_spoiled : (b : Bool) → b ≡ true → Has_now b → Has_next b
        has_spoiled b set was = record { whole = λ off. absurd (let e = sym set ∙ off in cc); spoiled = λ e ordered. spoiled_more Reads Fits rows r (was.spoiled set (ordered_less rows r ordered)) }

        pub has_ill : ((x : K × V) → Fits x → Reads r x → ⊥) → Has_next true
        has_ill bad = record { whole = λ off. absurd (let e = off in cc); spoiled = λ e ordered. spoiled_row Reads Fits rows r bad }

        module _ (x : K × V) (reads : Reads r x) (fits : Fits x) (b : Bool) (clear : b ≡ false) (was : Has_now b) where
          pub has_behind : IsPlace cmp items x Behind → HasGathered cmp Reads Fits (rows ++ r ∷ []) (items ++ x ∷ []) b
          has_behind behind = record { whole = λ _. gathers_more rows items r x (was.whole clear) reads fits behind; spoiled = λ set. absurd (let e = sym set ∙ clear in cc) }

          pub has_same : IsPlace cmp items x Same → Has_next b
          has_same same = record { whole = λ _. gathers_same rows items r x (was.whole clear) reads same; spoiled = λ set. absurd (let e = sym set ∙ clear in cc) }

          pub has_neither : IsPlace cmp items x Neither → Has_next true
          has_neither neither = record { whole = λ never. absurd (let e = never in cc); spoiled = λ _ ordered. spoiled_pair (rows ++ r ∷ []) rows [] items r x (sym (append-nil (rows ++ r ∷ []))) ordered (was.whole clear) reads fits neither }

-- ---- the items are what the table holds

module _ {K V : Type 0} (Reads : Row → K × V → Type 0) (Fits : K × V → Type 0) (row_of : K × V → Row) (shown cells : Row → Row) (keys : List Key) (stored rows : List Row) (loaded : AreLoaded shown keys stored rows) where
  pub read_all : ((s : Row) (x : K × V) → Reads (shown s) x → cells s ≡ row_of x) → (items : List (K × V)) → AreRead Reads Fits rows items → IsNumbered stored → AreRows cells stored (map row_of items)
  read_all are items read ids = record {
    keyed = ids.keyed;
    numbered = ids.numbered;
    sound = λ s h.
        let it = read.each (shown s) (loaded.each s h) in
        subst (Has (map row_of items)) (sym (are s it.0 it.2)) (has_map row_of items it.0 it.1);
    complete = λ c h.
        let m = map_has row_of items c h in
        let r = read.from m.0 m.1 in
        let s = loaded.from r.0 r.1 in
        (s.0, s.1, are s.0 m.0 (subst (λ q. Reads q m.0) s.2 r.2) ∙ sym m.2);
  }

  pub no_items : ((s : Row) (x : K × V) → cells s ≡ row_of x → Reads (shown s) x) → ((r : Row) (x y : K × V) → Fits x → Fits y → Reads r x → Reads r y → x ≡ y) → AreSpoiled Reads Fits rows
      → (xs : List (K × V)) → ((x : K × V) → Has xs x → Fits x) → AreKeyed xs → AreRows cells stored (map row_of xs) → ⊥
  no_items reads one spoiled xs fit keyed are = go spoiled
    where
      item_of : (r : Row) → Has rows r → (x : K × V) × Has xs x × Reads r x
      item_of r h =
          let s = loaded.from r h in
          let m = map_has row_of xs (cells s.0) (are.sound s.0 s.1) in
          (m.0, m.1, subst (λ q. Reads q m.0) (sym s.2) (reads s.0 m.0 m.2))

      go : AreSpoiled Reads Fits rows → ⊥
      go (inl bad) = let it = item_of bad.0 bad.1 in bad.2 it.0 (fit it.0 it.1) it.2
      go (inr bad) =
          let a = item_of bad.0 bad.4 in
          let b = item_of bad.1 bad.5 in
          let same_a : bad.2 ≡ a.0 = one bad.0 bad.2 a.0 bad.8 (fit a.0 a.1) bad.6 a.2 in
          let same_b : bad.3 ≡ b.0 = one bad.1 bad.3 b.0 bad.9 (fit b.0 b.1) bad.7 b.2 in
          let key : a.0.0 ≡ b.0.0 = ap (λ (w : K × V). w.0) (sym same_a) ∙ bad.10 ∙ ap (λ (w : K × V). w.0) same_b in
          bad.11 (same_a ∙ keyed a.0 b.0 a.1 b.1 key ∙ sym same_b)
