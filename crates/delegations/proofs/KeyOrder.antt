-- Keys in order: names by their bytes, and places on a shelf by role and version.
use Rattle.std.proofs.Common.{◌≡◌, ℕ, ◌<◌, [], ◌∷◌, refl, sym, ap, ◌∙◌, subst, arith, ◌⊎◌, inl, inr, Bool, true, false}
use Rattle.std.specs.Prelude.{◌&&◌, bytes_eq, nat_eq, nat_lt}
use Rattle.std.proofs.lemmas.Bool.{true≢false, cases_order, both_ways, and_parts, and_from, or_cases, or_parts, or_left, or_right, ltb-true, lt-ltb, eqb-true, eq-eqb, false_from_ne_true}
use Rattle.std.proofs.lemmas.Bool.Decides.{nat_tests}
use Rattle.std.proofs.lemmas.Slice.Eq.{bytes_eq-Decides}
use Rattle.metadata.specs.File.{Bytes, Name}
use Rattle.delegations.specs.Delegation.{before}
use Rattle.delegations.specs.Rows.{Place, same_place, place_before}
use Rattle.delegations.proofs.Walk.{by_test}

-- an order of keys, and which two are the same
pub record Orders {K : Type 0} (below same : K → K → Bool) : Type 0 where
  pub through : (a b c : K) → below a b ≡ true → below b c ≡ true → below a c ≡ true
  pub else : (a b : K) → below a b ≡ false → same b a ≡ false → below b a ≡ true

-- an order in which no key is before itself, and keys that pass for the same are so
pub record Sorts {K : Type 0} (below same : K → K → Bool) : Type 0 where
  pub order : Orders below same
  pub itself : (a : K) → below a a ≡ false
  pub one : (a b : K) → same a b ≡ true → a ≡ b

pub under : {K : Type 0} (below same : K → K → Bool) → Sorts below same → (a b : K) → below a b ≡ true → same a b ≡ false
under {K} below same o a b h =
    false_from_ne_true (same a b) (λ t. both_ways (below a b) (subst (λ (c : K). below a c ≡ false) (o.one a b t) (o.itself a)) h)

pub over : {K : Type 0} (below same : K → K → Bool) → Sorts below same → (a b : K) → below a b ≡ true → same b a ≡ false
over {K} below same o a b h =
    false_from_ne_true (same b a) (λ t. both_ways (below a b) (subst (λ (c : K). below c b ≡ false) (o.one b a t) (o.itself b)) h)

pub swapped : {K : Type 0} (below same : K → K → Bool) → Sorts below same → (a b : K) → same a b ≡ false → same b a ≡ false
swapped {K} below same o a b f =
    false_from_ne_true (same b a) (λ t. both_ways (same a b) f
    (let e = o.one b a t in subst (λ (c : K). same c b ≡ true) e (subst (λ (c : K). same b c ≡ true) (sym e) t)))

-- ---- dictionary order

head_less : (i j : ℕ) (c d : Bytes) → i < j → before (i ∷ c) (j ∷ d) ≡ true
head_less i j c d h = or_left (nat_lt i j) (nat_eq i j && before c d) (lt-ltb i j h)

head_same : (i : ℕ) (c d : Bytes) → before c d ≡ true → before (i ∷ c) (i ∷ d) ≡ true
head_same i c d h = or_right (nat_lt i i) (nat_eq i i && before c d) (and_from (nat_eq i i) (before c d) (eq-eqb i i refl) h)

-- the two ways in which a list is before another
heads : (i j : ℕ) (c d : Bytes) → before (i ∷ c) (j ∷ d) ≡ true → (i < j) ⊎ ((i ≡ j) × (before c d ≡ true))
heads i j c d h = of (or_cases (nat_lt i j) (nat_eq i j && before c d) h)
  where
    of : (nat_lt i j ≡ true) ⊎ ((nat_eq i j && before c d) ≡ true) → (i < j) ⊎ ((i ≡ j) × (before c d ≡ true))
    of (inl e) = inl (ltb-true i j e)
    of (inr e) = let p = and_parts (nat_eq i j) (before c d) e in inr (eqb-true i j p.0, p.1)

join_heads : (i j l : ℕ) (a b c : Bytes) → (before a b ≡ true → before b c ≡ true → before a c ≡ true)
    → (i < j) ⊎ ((i ≡ j) × (before a b ≡ true)) → (j < l) ⊎ ((j ≡ l) × (before b c ≡ true)) → before (i ∷ a) (l ∷ c) ≡ true
join_heads i j l a b c rest (inl p) (inl q) = head_less i l a c (omega arith)
join_heads i j l a b c rest (inl p) (inr q) = let e = q.0 in head_less i l a c (omega arith)
join_heads i j l a b c rest (inr p) (inl q) = let e = p.0 in head_less i l a c (omega arith)
join_heads i j l a b c rest (inr p) (inr q) = subst (λ (z : ℕ). before (z ∷ a) (l ∷ c) ≡ true) (sym (p.0 ∙ q.0)) (head_same l a c (rest p.1 q.1))

before_through : (a b c : Bytes) → before a b ≡ true → before b c ≡ true → before a c ≡ true
before_through [] [] c h k = k
before_through [] (j ∷ b) [] h k = k
before_through [] (j ∷ b) (l ∷ c) h k = refl
before_through (i ∷ a) [] c h k = absurd (true≢false (sym h))
before_through (i ∷ a) (j ∷ b) [] h k = k
before_through (i ∷ a) (j ∷ b) (l ∷ c) h k = join_heads i j l a b c (before_through a b c) (heads i j a b h) (heads j l b c k)

-- lists that begin alike are compared by what follows
same_heads : (i : ℕ) (a b : Bytes) → (before a b ≡ false → bytes_eq b a ≡ false → before b a ≡ true)
    → before (i ∷ a) (i ∷ b) ≡ false → bytes_eq (i ∷ b) (i ∷ a) ≡ false → before (i ∷ b) (i ∷ a) ≡ true
same_heads i a b rest h k = head_same i b a (rest
    (false_from_ne_true (before a b) (λ t. both_ways (before (i ∷ a) (i ∷ b)) h (head_same i a b t)))
    (false_from_ne_true (bytes_eq b a) (λ t. both_ways (bytes_eq (i ∷ b) (i ∷ a)) k
    ((bytes_eq-Decides (i ∷ b) (i ∷ a)).1 (ap (λ (z : Bytes). i ∷ z) ((bytes_eq-Decides b a).0 t))))))

other_heads : (i j : ℕ) (a b : Bytes) → (before a b ≡ false → bytes_eq b a ≡ false → before b a ≡ true)
    → before (i ∷ a) (j ∷ b) ≡ false → bytes_eq (j ∷ b) (i ∷ a) ≡ false → (i ≡ j) ⊎ ((i < j) ⊎ (j < i)) → before (j ∷ b) (i ∷ a) ≡ true
other_heads i j a b rest h k (inl e) =
    subst (λ (z : ℕ). before (i ∷ a) (z ∷ b) ≡ false → bytes_eq (z ∷ b) (i ∷ a) ≡ false → before (z ∷ b) (i ∷ a) ≡ true) e (same_heads i a b rest) h k
other_heads i j a b rest h k (inr (inl p)) = absurd (both_ways (before (i ∷ a) (j ∷ b)) h (head_less i j a b p))
other_heads i j a b rest h k (inr (inr p)) = head_less j i b a p

before_else : (a b : Bytes) → before a b ≡ false → bytes_eq b a ≡ false → before b a ≡ true
before_else [] [] h k = absurd (true≢false k)
before_else [] (j ∷ b) h k = absurd (true≢false h)
before_else (i ∷ a) [] h k = refl
before_else (i ∷ a) (j ∷ b) h k = other_heads i j a b (before_else a b) h k (cases_order i j)

pub orders_bytes : Orders before bytes_eq
orders_bytes = record { through = before_through; else = before_else }

-- ---- the order of places

same_bytes : (a b : Bytes) → a ≡ b → bytes_eq a b ≡ true
same_bytes a b e = (bytes_eq-Decides a b).1 e

by_role : (p q : Place) → before p.0 q.0 ≡ true → place_before p q ≡ true
by_role p q h = or_left (before p.0 q.0) (bytes_eq p.0 q.0 && nat_lt p.1 q.1) h

by_version : (p q : Place) → p.0 ≡ q.0 → p.1 < q.1 → place_before p q ≡ true
by_version p q e h = or_right (before p.0 q.0) (bytes_eq p.0 q.0 && nat_lt p.1 q.1)
    (and_from (bytes_eq p.0 q.0) (nat_lt p.1 q.1) (same_bytes p.0 q.0 e) (lt-ltb p.1 q.1 h))

ways : (p q : Place) → place_before p q ≡ true → (before p.0 q.0 ≡ true) ⊎ ((p.0 ≡ q.0) × (p.1 < q.1))
ways p q h = of (or_cases (before p.0 q.0) (bytes_eq p.0 q.0 && nat_lt p.1 q.1) h)
  where
    of : (before p.0 q.0 ≡ true) ⊎ ((bytes_eq p.0 q.0 && nat_lt p.1 q.1) ≡ true) → (before p.0 q.0 ≡ true) ⊎ ((p.0 ≡ q.0) × (p.1 < q.1))
    of (inl e) = inl e
    of (inr e) = let t = and_parts (bytes_eq p.0 q.0) (nat_lt p.1 q.1) e in inr ((bytes_eq-Decides p.0 q.0).0 t.0, ltb-true p.1 q.1 t.1)

place_through : (p q r : Place) → place_before p q ≡ true → place_before q r ≡ true → place_before p r ≡ true
place_through p q r h k = of (ways p q h) (ways q r k)
  where
    of : (before p.0 q.0 ≡ true) ⊎ ((p.0 ≡ q.0) × (p.1 < q.1)) → (before q.0 r.0 ≡ true) ⊎ ((q.0 ≡ r.0) × (q.1 < r.1)) → place_before p r ≡ true
    of (inl x) (inl y) = by_role p r (before_through p.0 q.0 r.0 x y)
    of (inl x) (inr y) = by_role p r (subst (λ (z : Name). before p.0 z ≡ true) y.0 x)
    of (inr x) (inl y) = by_role p r (subst (λ (z : Name). before z r.0 ≡ true) (sym x.0) y)
    of (inr x) (inr y) = by_version p r (x.0 ∙ y.0) (let a = x.1 in let b = y.1 in omega arith)

place_else : (p q : Place) → place_before p q ≡ false → same_place q p ≡ false → place_before q p ≡ true
place_else p q h k = by_test (bytes_eq q.0 p.0) (λ t. alike ((bytes_eq-Decides q.0 p.0).0 t)) (λ f. by_role q p (before_else p.0 q.0 (or_parts (before p.0 q.0) (bytes_eq p.0 q.0 && nat_lt p.1 q.1) h).0 f))
  where
    alike : q.0 ≡ p.0 → place_before q p ≡ true
    alike e = of (cases_order p.1 q.1)
      where
        of : (p.1 ≡ q.1) ⊎ ((p.1 < q.1) ⊎ (q.1 < p.1)) → place_before q p ≡ true
        of (inl v) = absurd (both_ways (same_place q p) k (and_from (bytes_eq q.0 p.0) (nat_eq q.1 p.1) (same_bytes q.0 p.0 e) (eq-eqb q.1 p.1 (sym v))))
        of (inr (inl v)) = absurd (both_ways (place_before p q) h (by_version p q (sym e) v))
        of (inr (inr v)) = by_version q p e v

pub orders_places : Orders place_before same_place
orders_places = record { through = place_through; else = place_else }

itself_bytes : (a : Bytes) → before a a ≡ false
itself_bytes [] = refl
itself_bytes (i ∷ a) = let h = itself_bytes a in grind (arith, nat_tests)

pub sorts_bytes : Sorts before bytes_eq
sorts_bytes = record { order = orders_bytes; itself = itself_bytes; one = λ a b. (bytes_eq-Decides a b).0 }

itself_place : (p : Place) → place_before p p ≡ false
itself_place p = false_from_ne_true (place_before p p) (λ h. of (ways p p h))
  where
    of : (before p.0 p.0 ≡ true) ⊎ ((p.0 ≡ p.0) × (p.1 < p.1)) → ⊥
    of (inl x) = both_ways (before p.0 p.0) (itself_bytes p.0) x
    of (inr y) = let less = y.1 in omega arith

pub place_one : (p q : Place) → same_place p q ≡ true → p ≡ q
place_one p q h =
    let t = and_parts (bytes_eq p.0 q.0) (nat_eq p.1 q.1) h in
    let name = (bytes_eq-Decides p.0 q.0).0 t.0 in
    let number = eqb-true p.1 q.1 t.1 in
    λ i. (name i, number i)

pub sorts_places : Sorts place_before same_place
sorts_places = record { order = orders_places; itself = itself_place; one = place_one }
