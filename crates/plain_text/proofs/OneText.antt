-- Texts that are spelled alike are one text.
use Rattle.std.proofs.Common.{◌≡◌, ℕ, ◌/◌, ◌%◌, ◌<◌, true, false, nat_lt, List, [], ◌∷◌, ◌++◌, get_or, drop, flat_map, chars, encode_utf8_all, IsUtf8, refl, sym, ◌∙◌, ap, arith}
use Rattle.std.proofs.lemmas.Bool.{and_parts, ltb-true}
use Rattle.std.proofs.lemmas.Bool.Decides.{nat_tests}
use Rattle.std.proofs.lemmas.Fmt.{digits_is_IsNumeral}
use Rattle.std.proofs.lemmas.Str.{encodes-chars}
use Rattle.std.specs.Fmt.{digits, digit_glyph}
use Rattle.std.specs.List.{list_all}
use Rattle.std.specs.Str.Parse.{digits_value}
use Rattle.plain_text.specs.Spelling.{is_hidden, spelling_of}
use Rattle.plain_text.proofs.Shapes.{Kind, control, hidden, backslash, itself, kind_of, shape, shaped}
use Rattle.plain_text.proofs.Spelled.{is_simple, code_simple, control_low, few_digits}

one_glyph : (m n : ℕ) → m < 16 → n < 16 → digit_glyph false m ≡ digit_glyph false n → m ≡ n
one_glyph m n a b e = grind (arith, nat_tests)

one_pair : (c d : ℕ) → c < 256 → d < 256 → digit_glyph false (c / 16) ≡ digit_glyph false (d / 16) → digit_glyph false (c % 16) ≡ digit_glyph false (d % 16) → c ≡ d
one_pair c d a b e f =
    let first : c / 16 ≡ d / 16 = one_glyph (c / 16) (d / 16) (omega arith) (omega arith) e in
    let second : c % 16 ≡ d % 16 = one_glyph (c % 16) (d % 16) (omega arith) (omega arith) f in
    omega arith

one_code : (c d : ℕ) → is_hidden c ≡ true → is_hidden d ≡ true → digits 16 false c ≡ digits 16 false d → c ≡ d
one_code c d a b e =
    sym (digits_is_IsNumeral 16 false (omega arith) (omega arith) c (few_digits c a)).1
    ∙ ap (digits_value 16) e
    ∙ (digits_is_IsNumeral 16 false (omega arith) (omega arith) d (few_digits d b)).1

simple_low : (x : ℕ) (xs : List ℕ) → list_all is_simple (x ∷ xs) ≡ true → x < 123
simple_low x xs h = ltb-true x 123 (and_parts (nat_lt x 123) _ (and_parts (is_simple x) (list_all is_simple xs) h).0).0

first_of : (xs ys : List ℕ) → xs ≡ ys → get_or xs 0 0 ≡ get_or ys 0 0
first_of xs ys e = ap (λ (zs : List ℕ). get_or zs 0 0) e

second_of : (xs ys : List ℕ) → xs ≡ ys → get_or xs 1 0 ≡ get_or ys 1 0
second_of xs ys e = ap (λ (zs : List ℕ). get_or zs 1 0) e

-- digits end at the brace
to_brace : (xs ys r t : List ℕ) → list_all is_simple xs ≡ true → list_all is_simple ys ≡ true → xs ++ 125 ∷ [] ++ r ≡ ys ++ 125 ∷ [] ++ t → (xs ≡ ys) × (r ≡ t)
to_brace [] [] r t a b e = (refl, ap (drop 1) e)
to_brace [] (y ∷ ys) r t a b e = absurd (omega (arith, simple_low y ys b, first_of _ _ e))
to_brace (x ∷ xs) [] r t a b e = absurd (omega (arith, simple_low x xs a, first_of _ _ e))
to_brace (x ∷ xs) (y ∷ ys) r t a b e =
    let more = to_brace xs ys r t (and_parts (is_simple x) (list_all is_simple xs) a).1 (and_parts (is_simple y) (list_all is_simple ys) b).1 (ap (drop 1) e) in
    let same : x ≡ y = first_of _ _ e in
    (cc, more.1)

one_shape : (c d : ℕ) (r t : List ℕ) (k : Kind c) (l : Kind d) → shape c k ++ r ≡ shape d l ++ t → (c ≡ d) × (r ≡ t)
one_shape c d r t (control a) (control b) e =
    (one_pair c d (control_low c a) (control_low d b) (ap (λ (zs : List ℕ). get_or zs 2 0) e) (ap (λ (zs : List ℕ). get_or zs 3 0) e), ap (drop 4) e)
one_shape c d r t (control a) (hidden b h) e = absurd (omega (arith, second_of _ _ e))
one_shape c d r t (control a) (backslash b) e = absurd (omega (arith, second_of _ _ e))
one_shape c d r t (control a) (itself b h other) e = absurd (other (sym (first_of _ _ e)))
one_shape c d r t (hidden a g) (control b) e = absurd (omega (arith, second_of _ _ e))
one_shape c d r t (hidden a g) (hidden b h) e =
    let same = to_brace (digits 16 false c) (digits 16 false d) r t (code_simple c g) (code_simple d h) (ap (drop 3) e) in
    (one_code c d g h same.0, same.1)
one_shape c d r t (hidden a g) (backslash b) e = absurd (omega (arith, second_of _ _ e))
one_shape c d r t (hidden a g) (itself b h other) e = absurd (other (sym (first_of _ _ e)))
one_shape c d r t (backslash a) (control b) e = absurd (omega (arith, second_of _ _ e))
one_shape c d r t (backslash a) (hidden b h) e = absurd (omega (arith, second_of _ _ e))
one_shape c d r t (backslash a) (backslash b) e = (a ∙ sym b, ap (drop 2) e)
one_shape c d r t (backslash a) (itself b h other) e = absurd (other (sym (first_of _ _ e)))
one_shape c d r t (itself a g other) (control b) e = absurd (other (first_of _ _ e))
one_shape c d r t (itself a g other) (hidden b h) e = absurd (other (first_of _ _ e))
one_shape c d r t (itself a g other) (backslash b) e = absurd (other (first_of _ _ e))
one_shape c d r t (itself a g other) (itself b h differs) e = (first_of _ _ e, ap (drop 1) e)

one_spelling : (c d : ℕ) (r t : List ℕ) → spelling_of c ++ r ≡ spelling_of d ++ t → (c ≡ d) × (r ≡ t)
one_spelling c d r t e =
    one_shape c d r t (kind_of c) (kind_of d)
    (sym (ap (λ (xs : List ℕ). xs ++ r) (shaped c (kind_of c))) ∙ e ∙ ap (λ (xs : List ℕ). xs ++ t) (shaped d (kind_of d)))

-- no spelling is empty
no_end : (c : ℕ) (r : List ℕ) (k : Kind c) → [] ≡ shape c k ++ r → ⊥
no_end c r (control is) e = cc
no_end c r (hidden no_control is) e = cc
no_end c r (backslash is) e = cc
no_end c r (itself no_control seen other) e = cc

not_ended : (c : ℕ) (cs : List ℕ) → [] ≡ flat_map spelling_of (c ∷ cs) → ⊥
not_ended c cs e = no_end c (flat_map spelling_of cs) (kind_of c) (e ∙ ap (λ (xs : List ℕ). xs ++ flat_map spelling_of cs) (shaped c (kind_of c)))

pub one_list : (cs ds : List ℕ) → flat_map spelling_of cs ≡ flat_map spelling_of ds → cs ≡ ds
one_list [] [] e = refl
one_list [] (d ∷ ds) e = absurd (not_ended d ds e)
one_list (c ∷ cs) [] e = absurd (not_ended c cs (sym e))
one_list (c ∷ cs) (d ∷ ds) e =
    let same = one_spelling c d (flat_map spelling_of cs) (flat_map spelling_of ds) e in
    let first : c ≡ d = same.0 in
    let rest : cs ≡ ds = one_list cs ds same.1 in
    cc

pub one_text : (s t : List ℕ) → IsUtf8 s → IsUtf8 t → flat_map spelling_of (chars s) ≡ flat_map spelling_of (chars t) → s ≡ t
one_text s t a b e = sym (encodes-chars s a) ∙ ap encode_utf8_all (one_list (chars s) (chars t) e) ∙ encodes-chars t b
