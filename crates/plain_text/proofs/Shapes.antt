-- The four ways in which a character is spelled.
use Rattle.std.proofs.Common.{◌≡◌, ◌≢◌, ℕ, true, false, List, [], ◌∷◌, ◌++◌, inl, inr, ap}
use Rattle.std.proofs.lemmas.Bool.{cases_Bool, cases_eq}
use Rattle.std.specs.Fmt.{digits}
use Rattle.plain_text.specs.Spelling.{is_control, is_hidden, two_digits, spelling_of}
use Rattle.plain_text.proofs.Spelled as spelled

pub data Kind (c : ℕ) : Type 0 where
  control : is_control c ≡ true → Kind c
  hidden : is_control c ≡ false → is_hidden c ≡ true → Kind c
  backslash : c ≡ 92 → Kind c
  itself : is_control c ≡ false → is_hidden c ≡ false → c ≢ 92 → Kind c

pub kind_of : (c : ℕ) → Kind c
kind_of c =
    elim (cases_Bool (is_control c)) [
      | inl is ↦ control is
      | inr no_control ↦
          elim (cases_Bool (is_hidden c)) [
            | inl is ↦ hidden no_control is
            | inr seen ↦ elim (cases_eq c 92) [ inl is ↦ backslash is | inr other ↦ itself no_control seen other ]
          ]
    ]

abbrev pub shape : (c : ℕ) → Kind c → List ℕ
shape c (control is) = 92 ∷ 120 ∷ two_digits c
shape c (hidden no_control is) = 92 ∷ 117 ∷ 123 ∷ (digits 16 false c ++ 125 ∷ [])
shape c (backslash is) = 92 ∷ 92 ∷ []
shape c (itself no_control seen other) = c ∷ []

pub shaped : (c : ℕ) (k : Kind c) → spelling_of c ≡ shape c k
shaped c (control is) = spelled.control_spelled c is
shaped c (hidden no_control is) = spelled.hidden_spelled c no_control is
shaped c (backslash is) = ap spelling_of is
shaped c (itself no_control seen other) = spelled.itself c no_control seen other
