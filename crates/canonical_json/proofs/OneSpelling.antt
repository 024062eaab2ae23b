-- A canonical text has one value, and nothing may be put behind it but further digits of an integer.
use Rattle.std.proofs.Common.{◌≡◌, ℕ, ◌⊎◌, inl, inr, Bool, true, false, List, [], ◌∷◌, ◌++◌, refl, sym, ap, ◌∙◌, arith, append-nil}
use Rattle.canonical_json.specs.Json.{Json, null, boolean, integer, text, array, object, IsInteger}
use Rattle.canonical_json.specs.Spelling.{spelling, IsCanonical}
use Rattle.canonical_json.specs.Faults.{IsDigit, GoesOnInDigits}
use Rattle.canonical_json.specs.steps.Reading.{got, value_at, is_digit}
use Rattle.canonical_json.proofs.Forms.{got_parts}
use Rattle.canonical_json.proofs.Sound.{digit_range}
use Rattle.canonical_json.proofs.Complete.{Ends, value_again, value_alone}
use Rattle.canonical_json.proofs.Whole.{whole_again}

pub one_value : (v w : Json) (bytes : List ℕ) → IsCanonical v bytes → IsCanonical w bytes → v ≡ w
one_value v w bytes c d = (got_parts v w [] [] (sym (whole_again bytes v c) ∙ whole_again bytes w d)).0

pub one_text : (v : Json) (a b : List ℕ) → IsCanonical v a → IsCanonical v b → a ≡ b
one_text v a b c d = c.spelled ∙ sym d.spelled

ends_or_digit : (more : List ℕ) → Ends more ⊎ ((digit : ℕ) × (rest : List ℕ) × (more ≡ digit ∷ rest) × IsDigit digit)
ends_or_digit [] = inl tt
ends_or_digit (b ∷ bs) = by_test (is_digit b) refl
  where
    by_test : (t : Bool) → is_digit b ≡ t → Ends (b ∷ bs) ⊎ ((digit : ℕ) × (rest : List ℕ) × (b ∷ bs ≡ digit ∷ rest) × IsDigit digit)
    by_test false e = inl e
    by_test true e = let r = digit_range b e in inr (b, bs, refl, (r.0, omega arith))

integer_or_not : (v : Json) → IsInteger v ⊎ (IsInteger v → ⊥)
integer_or_not null = inr (λ h. h)
integer_or_not (boolean b) = inr (λ h. h)
integer_or_not (integer z) = inl tt
integer_or_not (text t) = inr (λ h. h)
integer_or_not (array vs) = inr (λ h. h)
integer_or_not (object ms) = inr (λ h. h)

-- where the reader takes the value and leaves the rest, the whole is only that value if nothing is left
nothing_left : (v w : Json) (bytes more : List ℕ) → IsCanonical v bytes → IsCanonical w (bytes ++ more) → value_at true 32 (spelling v ++ more) ≡ got v more → more ≡ []
nothing_left v w bytes more c d e =
    let a = d.allowed in
    let all = value_again true w 32 [] (a.proper, (λ l. a.integers), a.nesting) tt in
    let same = ap (λ (xs : List ℕ). xs ++ more) (sym c.spelled) ∙ d.spelled ∙ sym (append-nil (spelling w)) in
    (got_parts v w more [] (sym e ∙ ap (value_at true 32) same ∙ all)).1

pub nothing_appended : (v w : Json) (bytes more : List ℕ) → IsCanonical v bytes → IsCanonical w (bytes ++ more) → (more ≡ []) ⊎ GoesOnInDigits v more
nothing_appended v w bytes more c d = by_kind (integer_or_not v) (ends_or_digit more)
  where
    by_kind : IsInteger v ⊎ (IsInteger v → ⊥) → Ends more ⊎ ((digit : ℕ) × (rest : List ℕ) × (more ≡ digit ∷ rest) × IsDigit digit) → (more ≡ []) ⊎ GoesOnInDigits v more
    by_kind kind (inl ends) = let a = c.allowed in inl (nothing_left v w bytes more c d (value_again true v 32 more (a.proper, (λ l. a.integers), a.nesting) ends))
    by_kind (inl is) (inr digit) = inr (is, digit)
    by_kind (inr other) (inr digit) = let a = c.allowed in inl (nothing_left v w bytes more c d (value_alone true v other 32 more (a.proper, (λ l. a.integers), a.nesting)))
