-- Places in a list, up to which nothing has a property.
use Rattle.std.proofs.Common.{◌≡◌, ℕ, ◌+◌, ◌<◌, ◌≤◌, List, length, map, get_or, Some, option_map, slice_get, nat_lt, inl, inr, refl, sym, ap, subst, ◌∙◌, arith, rules}
use Rattle.std.proofs.lemmas.Bool.{cases_Bool}
use Rattle.std.proofs.lemmas.List.{length-map}
use Rattle.std.proofs.lemmas.Option.{slice_get-map, slice_get_read, slice_get_within}

pub item_at : {A B : Type 0} (view : A → B) (xs : List A) (i : ℕ) (x : A) → i < length xs → x ≡ get_or xs i x → slice_get (map view xs) i ≡ Some (view x)
item_at view xs i x below is = slice_get-map view xs i ∙ ap (option_map view) (slice_get_read xs (length xs) i x refl below is)

pub some_once : {A : Type 0} (a b : A) → Some a ≡ Some b → a ≡ b
some_once a b e = cc

-- none before number n has the property
abbrev pub NoneBefore : {A : Type 0} → (A → Type 0) → List A → ℕ → Type 0
NoneBefore {A} P xs n = (i : ℕ) (x : A) → i < n → slice_get xs i ≡ Some x → P x → ⊥

pub one_more : {A : Type 0} (P : A → Type 0) (xs : List A) (n : ℕ) (x : A) → slice_get xs n ≡ Some x → NoneBefore P xs n → (P x → ⊥) → NoneBefore P xs (n + 1)
one_more P xs n x here before other i y below is p =
    elim (cases_Bool (nat_lt i n)) [
      | inl low ↦ let less : i < n = search rules in before i y less is p
      | inr high ↦
          let most : n ≤ i = search rules in
          let same : i ≡ n = omega (arith, below, most) in
          let one = some_once y x (sym is ∙ ap (slice_get xs) same ∙ here) in
          other (subst P one p)
    ]

pub one_number_more : (P : ℕ → Type 0) (n : ℕ) → ((i : ℕ) → i < n → P i → ⊥) → (P n → ⊥) → (i : ℕ) → i < n + 1 → P i → ⊥
one_number_more P n before other i below p =
    elim (cases_Bool (nat_lt i n)) [
      | inl low ↦ let less : i < n = search rules in before i less p
      | inr high ↦
          let most : n ≤ i = search rules in
          let same : i ≡ n = omega (arith, below, most) in
          other (subst P same p)
    ]

pub past_all : {A B : Type 0} (view : A → B) (P : B → Type 0) (xs : List A) (n : ℕ) → length xs ≤ n → NoneBefore P (map view xs) n
    → (i : ℕ) (y : B) → slice_get (map view xs) i ≡ Some y → P y → ⊥
past_all view P xs n all before i y is =
    let within : i < length (map view xs) = slice_get_within (map view xs) i y is in
    let same : length (map view xs) ≡ length xs = length-map xs view in
    before i y (omega (arith, within, same, all)) is
