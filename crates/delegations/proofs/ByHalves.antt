-- Looking up among rows whose keys rise, and by halves.
use Rattle.std.proofs.Common.{◌≡◌, ℕ, zero, suc, ◌≤◌, ◌<◌, List, [], ◌∷◌, map, length, slice_get, slice_index_or, Option, Some, None, cond, refl, sym, ap, ◌∙◌, subst, arith, Bool, true, false, ◌⊎◌, inl, inr}
use Rattle.std.specs.Prelude.{option_map, option_and_then}
use Rattle.std.specs.Option.{option_or}
use Rattle.std.specs.Borrow.{Bor}
use Rattle.std.specs.Slice.{IsItemAt}
use Rattle.std.specs.List.{AllWithin}
use Rattle.std.specs.List.Sorted.{IsPartitionedBy, IsPartitionPoint}
use Rattle.std.proofs.lemmas.List.{length-map, get_or-map}
use Rattle.std.proofs.lemmas.Bool.{cases_lt}
use Rattle.std.proofs.lemmas.Option.{slice_get_cases, slice_get_past}
use Rattle.delegations.specs.Rows.{Rises, value_at}
use Rattle.delegations.proofs.KeyOrder.{Sorts, over, swapped, under}
use Rattle.delegations.proofs.PutIn.{found_with}
use Rattle.delegations.proofs.Walk.{by_test}

pub rest_rises : {K A : Type 0} (below : K → K → Bool) (row : K × A) (rows : List (K × A)) → Rises below (row ∷ rows) → Rises below rows
rest_rises below row rows r i j d h k = r (suc i) (suc j) d (omega arith) (omega arith)

second_above : {K A : Type 0} (below : K → K → Bool) (row next : K × A) (rows : List (K × A)) → Rises below (row ∷ next ∷ rows) → below row.0 next.0 ≡ true
second_above below row next rows r = r 0 1 row (omega arith) (omega arith)

-- none of the rows has a key that is before all of theirs
none_above : {K A : Type 0} (below same : K → K → Bool) → Sorts below same → (row : K × A) (rows : List (K × A)) (key : K)
    → Rises below (row ∷ rows) → below key row.0 ≡ true → value_at same rows key ≡ None
none_above below same o row [] key r h = refl
none_above below same o row (next ∷ rows) key r h =
    let l : below key next.0 ≡ true = o.order.through key row.0 next.0 h (second_above below row next rows r) in
    rw (over below same o key next.0 l) (none_above below same o next rows key (rest_rises below row (next ∷ rows) r) l)

or_none : {A : Type 0} (o : Option A) → option_or o None ≡ o
or_none None = refl
or_none (Some x) = refl

-- where rows were put in, the rows that were there before come first
pub found_rising : {K A : Type 0} (below same : K → K → Bool) → Sorts below same → (rows : List (K × A)) (later : Option A) (key : K)
    → Rises below rows → found_with below same rows later key ≡ option_or (value_at same rows key) later
found_rising below same o [] later key r = refl
found_rising {K} {A} below same o (row ∷ rows) later key r = by_test (same row.0 key)
    (λ s. rw s refl)
    (λ s. by_test (below key row.0)
    (λ b. rw (s, b, none_above below same o row rows key r b) (or_none later))
    (λ b. rw (s, b) (found_rising below same o rows later key (rest_rises below row rows r))))

abbrev keyed : {X K A : Type 0} → (X → K) → (X → A) → List X → List (K × A)
keyed k v xs = map (λ x. (k x, v x)) xs

-- what stands at a place, if it has the key
abbrev at_place : {X K A : Type 0} → (X → K) → (X → A) → (K → K → Bool) → List X → ℕ → K → Option A
at_place k v same xs n key = option_and_then (λ x. cond (same (k x) key) (Some (v x)) None) (slice_get xs n)

by_halves : {X K A : Type 0} (k : X → K) (v : X → A) (below same : K → K → Bool) → Sorts below same → (xs : List X) (n : ℕ) (key : K)
    → Rises below (keyed k v xs) → AllWithin (λ x. below (k x) key ≡ true) xs 0 n → AllWithin (λ x. below (k x) key ≡ false) xs n (length xs)
    → value_at same (keyed k v xs) key ≡ at_place k v same xs n key
by_halves k v below same o [] n key r less more = refl
by_halves k v below same o (x ∷ xs) zero key r less more = by_test (same (k x) key)
    (λ t. rw t refl)
    (λ f. rw f (none_above below same o (k x, v x) (keyed k v xs) key r (o.order.else (k x) key (more 0 x (omega arith) (omega arith)) (swapped below same o (k x) key f))))
by_halves k v below same o (x ∷ xs) (suc n) key r less more =
    rw (under below same o (k x) key (less 0 x (omega arith) (omega arith)))
    (by_halves k v below same o xs n key (rest_rises below (k x, v x) (keyed k v xs) r)
    (λ i d h l. less (suc i) d (omega arith) (omega arith)) (λ i d h l. more (suc i) d (omega arith) (omega arith)))

lent : {X : Type 0} (xs : List X) (n : ℕ) (r : Option (Bor X)) → IsItemAt xs n r → slice_get xs n ≡ option_map (λ b. b.now) r
lent xs n None h = slice_get_past xs n h.3
lent {X} xs n (Some b) h = of (slice_get_cases xs n).1
  where
    of : ((x : X) × (n < length xs) × (slice_get xs n ≡ Some x) × (slice_index_or xs n x ≡ x)) ⊎ ((length xs ≤ n) × (slice_get xs n ≡ None)) → slice_get xs n ≡ Some b.now
    of (inl p) = p.2 ∙ ap Some (sym (h.4 (omega arith) p.0 ∙ p.3))
    of (inr p) = absurd (omega (arith, h.3.0, p.0))

-- what is found is what the place lends, if it has the key
pub found : {X K A : Type 0} (k : X → K) (v : X → A) (below same : K → K → Bool) → Sorts below same → (xs : List X) (n : ℕ) (key : K)
    → Rises below (keyed k v xs) → IsPartitionPoint (λ x. below (k x) key ≡ true) (λ x. below (k x) key ≡ false) xs n → (r : Option (Bor X)) → IsItemAt xs n r
    → value_at same (keyed k v xs) key ≡ option_and_then (λ b. cond (same (k b.now) key) (Some (v b.now)) None) r
found {X} k v below same o xs n key rising point r item =
    by_halves k v below same o xs n key rising point.0 point.1
    ∙ (ap (option_and_then (λ (x : X). cond (same (k x) key) (Some (v x)) None)) (lent xs n r item) ∙ through r)
  where
    through : (r : Option (Bor X)) → option_and_then (λ (x : X). cond (same (k x) key) (Some (v x)) None) (option_map (λ b. b.now) r)
        ≡ option_and_then (λ (b : Bor X). cond (same (k b.now) key) (Some (v b.now)) None) r
    through None = refl
    through (Some b) = refl

-- no row before the key comes after one that is not
pub parted : {X K A : Type 0} (k : X → K) (v : X → A) (below : K → K → Bool) → ((a b c : K) → below a b ≡ true → below b c ≡ true → below a c ≡ true)
    → (xs : List X) (key : K) → Rises below (keyed k v xs) → IsPartitionedBy (λ x. below (k x) key) xs
parted {X} {K} {A} k v below through xs key r i j d h l t = of (cases_lt i j)
  where
    at : (n : ℕ) → n < length xs → slice_index_or (keyed k v xs) n (k d, v d) ≡ (k (slice_index_or xs n d), v (slice_index_or xs n d))
    at n m = get_or-map (λ x. (k x, v x)) xs n d (k d, v d) m

    of : (i < j) ⊎ (j ≤ i) → below (k (slice_index_or xs i d)) key ≡ true
    of (inl m) =
        let here = sym (at i (omega arith)) in
        let there = sym (at j l) in
        through (k (slice_index_or xs i d)) (k (slice_index_or xs j d)) key
        ((λ s. below (here s).0 (there s).0) ∙ r i j (k d, v d) m (let n = length-map {B = K × A} xs (λ x. (k x, v x)) in omega arith)) t
    of (inr m) = subst (λ (n : ℕ). below (k (slice_index_or xs n d)) key ≡ true) (omega arith) t
