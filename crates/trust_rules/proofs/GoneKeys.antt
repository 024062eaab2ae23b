-- Rows without those of some keys.
use Rattle.std.proofs.Common.{◌≡◌, ◌+◌, ◌-◌, arith, Some, None, Bool, true, false, ◌&&◌, cond, not, List, [], ◌∷◌, map, filter, length, refl, sym, ap, ◌∙◌}
use Rattle.std.proofs.lemmas.Bool.{true≢false}
use Rattle.std.specs.List.{AllByRecursion, list_any}
use Rattle.delegations.specs.Rows.{value_at}
use Rattle.trust_rules.specs.Effects.{without}

-- a list seen through f, and what passes of it
pub map_filter : {X Y : Type 0} (f : X → Y) (p : Y → Bool) (xs : List X) → map f (filter (λ x. p (f x)) xs) ≡ filter p (map f xs)
map_filter f p [] = refl
map_filter {X} {Y} f p (x ∷ xs) = at (p (f x)) refl (map_filter f p xs)
  where
    at : (t : Bool) → p (f x) ≡ t → map f (filter (λ x. p (f x)) xs) ≡ filter p (map f xs) → map f (filter (λ x. p (f x)) (x ∷ xs)) ≡ filter p (map f (x ∷ xs))
    at true e later = rw e (ap (λ (l : List Y). f x ∷ l) later)
    at false e later = rw e later

pub all_pass : {X : Type 0} (p : X → Bool) (xs : List X) → AllByRecursion (λ x. p x ≡ true) xs → filter p xs ≡ xs
all_pass p [] h = refl
all_pass {X} p (x ∷ xs) h = rw (h.0) (ap (λ (l : List X). x ∷ l) (all_pass p xs h.1))

-- tests that agree at each element
pub filter_so : {X : Type 0} (p q : X → Bool) (xs : List X) → AllByRecursion (λ x. p x ≡ q x) xs → filter p xs ≡ filter q xs
filter_so p q [] h = refl
filter_so {X} p q (x ∷ xs) h = rw (h.0) (ap (λ (l : List X). cond (q x) (x ∷ l) l) (filter_so p q xs h.1))

pub each_so : {X : Type 0} (P : X → Type 0) → ((x : X) → P x) → (xs : List X) → AllByRecursion P xs
each_so P so [] = tt
each_so P so (x ∷ xs) = (so x, each_so P so xs)

each_again : {X : Type 0} (P Q : X → Type 0) → ((x : X) → P x → Q x) → (xs : List X) → AllByRecursion P xs → AllByRecursion Q xs
each_again P Q so [] h = tt
each_again P Q so (x ∷ xs) h = (so x h.0, each_again P Q so xs h.1)

module _ {K : Type 0} (same : K → K → Bool) where
  -- whether a key is among some
  abbrev pub is_among : List K → K → Bool
  is_among keys k = list_any (λ key. same k key) keys

module _ {K A : Type 0} (same : K → K → Bool) where
  filter_twice : (key : K) (keys : List K) (rows : List (K × A))
      → filter (λ row. not (is_among same keys row.0)) (filter (λ row. not (same row.0 key)) rows) ≡ filter (λ row. not (is_among same (key ∷ keys) row.0)) rows
  filter_twice key keys [] = refl
  filter_twice key keys (row ∷ rows) = at (same row.0 key) refl (is_among same keys row.0) refl (filter_twice key keys rows)
    where
      at : (a : Bool) → same row.0 key ≡ a → (b : Bool) → is_among same keys row.0 ≡ b
          → filter (λ row. not (is_among same keys row.0)) (filter (λ row. not (same row.0 key)) rows) ≡ filter (λ row. not (is_among same (key ∷ keys) row.0)) rows
          → filter (λ row. not (is_among same keys row.0)) (filter (λ row. not (same row.0 key)) (row ∷ rows)) ≡ filter (λ row. not (is_among same (key ∷ keys) row.0)) (row ∷ rows)
      at true e b f later = rw e later
      at false e true f later = rw (e, f) later
      at false e false f later = rw (e, f) (ap (λ (l : List (K × A)). row ∷ l) later)

  -- key by key or at once
  pub without_is : (rows : List (K × A)) (keys : List K) → without same rows keys ≡ filter (λ row. not (is_among same keys row.0)) rows
  without_is rows [] = sym (all_pass (λ (row : K × A). not (is_among same [] row.0)) rows (each_so (λ (row : K × A). not (is_among same [] row.0) ≡ true) (λ row. refl) rows))
  without_is rows (key ∷ keys) = without_is (filter (λ row. not (same row.0 key)) rows) keys ∙ filter_twice key keys rows

  module _ (one : (a b : K) → same a b ≡ true → a ≡ b) (itself : (k : K) → same k k ≡ true) (p : K → Bool) where
    -- the keys of the rows that do not pass
    abbrev pub failing : List (K × A) → List K
    failing rows = map (λ row. row.0) (filter (λ row. not (p row.0)) rows)

    none_among : (rows : List (K × A)) (k : K) → p k ≡ true → is_among same (failing rows) k ≡ false
    none_among [] k h = refl
    none_among (row ∷ rows) k h = at (p row.0) refl (same k row.0) refl (none_among rows k h)
      where
        at : (a : Bool) → p row.0 ≡ a → (b : Bool) → same k row.0 ≡ b → is_among same (failing rows) k ≡ false → is_among same (failing (row ∷ rows)) k ≡ false
        at true e b f later = rw e later
        at false e true f later = absurd (true≢false (sym h ∙ ap p (one k row.0 f) ∙ e))
        at false e false f later = rw (e, f) later

    more_among : (row : K × A) (rows : List (K × A)) (k : K) → is_among same (failing rows) k ≡ true → is_among same (failing (row ∷ rows)) k ≡ true
    more_among row rows k h = at (p row.0) refl (same k row.0) refl
      where
        at : (a : Bool) → p row.0 ≡ a → (b : Bool) → same k row.0 ≡ b → is_among same (failing (row ∷ rows)) k ≡ true
        at true e b f = rw e h
        at false e true f = rw (e, f) refl
        at false e false f = rw (e, f) h

    self_among : (row : K × A) (rows : List (K × A)) → p row.0 ≡ false → is_among same (failing (row ∷ rows)) row.0 ≡ true
    self_among row rows h = rw (h, itself row.0) refl

    goes_or_stays : (row : K × A) (keys : List K) → (p row.0 ≡ false → is_among same keys row.0 ≡ true) → (p row.0 ≡ true → is_among same keys row.0 ≡ false)
        → not (is_among same keys row.0) ≡ p row.0
    goes_or_stays row keys goes stays = at (p row.0) refl
      where
        at : (a : Bool) → p row.0 ≡ a → not (is_among same keys row.0) ≡ p row.0
        at true e = rw (e, stays e) refl
        at false e = rw (e, goes e) refl

    each_goes : (rows : List (K × A)) → AllByRecursion (λ row. p row.0 ≡ false → is_among same (failing rows) row.0 ≡ true) rows
    each_goes [] = tt
    each_goes (row ∷ rows) = (
      λ h. self_among row rows h,
      each_again (λ (r : K × A). p r.0 ≡ false → is_among same (failing rows) r.0 ≡ true) (λ (r : K × A). p r.0 ≡ false → is_among same (failing (row ∷ rows)) r.0 ≡ true)
          (λ r so h. more_among row rows r.0 (so h)) rows (each_goes rows),
    )

    -- without the rows that do not pass, those are left that do
    pub without_failing : (rows : List (K × A)) → without same rows (failing rows) ≡ filter (λ row. p row.0) rows
    without_failing rows =
        without_is rows (failing rows)
        ∙ filter_so (λ (row : K × A). not (is_among same (failing rows) row.0)) (λ (row : K × A). p row.0) rows
        (each_again (λ (r : K × A). p r.0 ≡ false → is_among same (failing rows) r.0 ≡ true) (λ (r : K × A). not (is_among same (failing rows) r.0) ≡ p r.0)
        (λ r so. goes_or_stays r (failing rows) so (λ h. none_among rows r.0 h)) rows (each_goes rows))

-- where there is no value at a key, no row goes
pub none_there : {K A : Type 0} (same : K → K → Bool) (rows : List (K × A)) (key : K) → value_at same rows key ≡ None → filter (λ row. not (same row.0 key)) rows ≡ rows
none_there same [] key none = refl
none_there {K} {A} same (row ∷ rows) key none = at (same row.0 key) refl (none_there same rows key) none
  where
    at : (t : Bool) → same row.0 key ≡ t → (value_at same rows key ≡ None → filter (λ row. not (same row.0 key)) rows ≡ rows)
        → cond t (Some row.1) (value_at same rows key) ≡ None → filter (λ row. not (same row.0 key)) (row ∷ rows) ≡ row ∷ rows
    at true e later is = absurd (cc)
    at false e later is = rw e (ap (λ (l : List (K × A)). row ∷ l) (later is))

-- what passes both of two tests
pub filter_both : {X : Type 0} (p q : X → Bool) (xs : List X) → filter q (filter p xs) ≡ filter (λ x. p x && q x) xs
filter_both p q [] = refl
filter_both {X} p q (x ∷ xs) = at (p x) refl (q x) refl (filter_both p q xs)
  where
    at : (a : Bool) → p x ≡ a → (b : Bool) → q x ≡ b → filter q (filter p xs) ≡ filter (λ x. p x && q x) xs → filter q (filter p (x ∷ xs)) ≡ filter (λ x. p x && q x) (x ∷ xs)
    at true e true f later = rw (e, f) (ap (λ (l : List X). x ∷ l) later)
    at true e false f later = rw (e, f) later
    at false e b f later = rw e later

filter_sum : {X : Type 0} (p : X → Bool) (xs : List X) → length (filter p xs) + length (filter (λ x. not (p x)) xs) ≡ length xs
filter_sum p [] = refl
filter_sum {X} p (x ∷ xs) = at (p x) refl (filter_sum p xs)
  where
    at : (a : Bool) → p x ≡ a → length (filter p xs) + length (filter (λ x. not (p x)) xs) ≡ length xs
        → length (filter p (x ∷ xs)) + length (filter (λ x. not (p x)) (x ∷ xs)) ≡ length (x ∷ xs)
    at true e later = rw e (omega (arith, later))
    at false e later = rw e (omega (arith, later))

-- as many go as do not pass
pub filter_counts : {X : Type 0} (p : X → Bool) (xs : List X) → length xs - length (filter p xs) ≡ length (filter (λ x. not (p x)) xs)
filter_counts p xs = let sum = filter_sum p xs in omega (arith, sum)
