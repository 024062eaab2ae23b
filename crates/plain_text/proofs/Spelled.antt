-- What a spelling is made of.
use Rattle.std.proofs.Common.{◌≡◌, ◌≢◌, ℕ, Bool, ◌/◌, ◌%◌, ◌^◌, ◌-◌, ◌<◌, true, false, not, ◌||◌, ◌&&◌, ◌==◌, nat_lt, List, [], ◌∷◌, ◌++◌, encode_utf8_all, refl, sym, ◌∙◌, ap, arith, append-nil}
use Rattle.std.proofs.Math.Utf8.{encodes, encode}
use Rattle.std.proofs.lemmas.Bool.{agree_below_at, and_parts, and_from, lt-ltb, ltb-true, ne_eqb}
use Rattle.std.proofs.lemmas.Bool.Decides.{nat_tests}
use Rattle.std.proofs.lemmas.Fmt.{digits_is_IsNumeral, hex_byte}
use Rattle.std.proofs.lemmas.Str.{encode_ascii, encodes-append}
use Rattle.std.specs.Char.{digit_value}
use Rattle.std.specs.Fmt.{digits, digit_glyph, padded_integral, format_spec}
use Rattle.std.specs.List.{list_all}
use Rattle.std.specs.Str.Parse.{AllDigits}
use Rattle.plain_text.specs.Spelling.{is_control, is_hidden, is_plain, two_digits, spelling_of}

-- ---- hex digits

-- plain, and before `{`
abbrev pub is_simple : ℕ → Bool
is_simple c = nat_lt c 123 && (is_plain c && not (c == 92))

low_digit : (c : ℕ) → digit_value c < 16 → c < 103
low_digit c h = grind (arith, nat_tests)

by_test : (t s : Bool) → (not t || s) ≡ true → t ≡ true → s ≡ true
by_test true s h e = h
by_test false s h e = absurd (cc)

digit_simple : (c : ℕ) → digit_value c < 16 → is_simple c ≡ true
digit_simple c h =
    by_test (nat_lt (digit_value c) 16) (is_simple c) (agree_below_at (λ k. not (nat_lt (digit_value k) 16) || is_simple k) (λ k. true) 103 c refl (low_digit c h)) (lt-ltb (digit_value c) 16 h)

digits_simple : (ds : List ℕ) → AllDigits 16 ds → list_all is_simple ds ≡ true
digits_simple [] h = refl
digits_simple (c ∷ cs) h = and_from (is_simple c) (list_all is_simple cs) (digit_simple c h.0) (digits_simple cs h.1)

glyph_simple : (d : ℕ) → d < 16 → is_simple (digit_glyph false d) ≡ true
glyph_simple d h = agree_below_at (λ k. is_simple (digit_glyph false k)) (λ k. true) 16 d refl h

-- ---- the numbers of what is not plain
pub control_low : (c : ℕ) → is_control c ≡ true → c < 256
control_low c h = grind (arith, nat_tests)

pub hidden_low : (c : ℕ) → is_hidden c ≡ true → c < 2 ^ 16
hidden_low c h = grind (arith, nat_tests)

pub few_digits : (c : ℕ) → is_hidden c ≡ true → c < 16 ^ 64
few_digits c h = omega (arith, hidden_low c h)

pub code_simple : (c : ℕ) → is_hidden c ≡ true → list_all is_simple (digits 16 false c) ≡ true
code_simple c h = digits_simple (digits 16 false c) (digits_is_IsNumeral 16 false (omega arith) (omega arith) c (few_digits c h)).0.1

pub pair_simple : (c : ℕ) → is_control c ≡ true → list_all is_simple (two_digits c) ≡ true
pair_simple c h =
    let low = control_low c h in
    let first : c / 16 < 16 = omega arith in
    let second : c % 16 < 16 = omega arith in
    and_from _ _ (glyph_simple (c / 16) first) (and_from _ true (glyph_simple (c % 16) second) refl)

-- ---- simple characters are bytes
one_byte : (c : ℕ) → is_simple c ≡ true → encode c ≡ c ∷ []
one_byte c h = encode_ascii c (let low = ltb-true c 123 (and_parts (nat_lt c 123) _ h).0 in omega arith)

pub as_bytes : (cs : List ℕ) → list_all is_simple cs ≡ true → encodes cs ≡ cs
as_bytes [] h = refl
as_bytes (c ∷ cs) h =
    let p = and_parts (is_simple c) (list_all is_simple cs) h in
    rw (one_byte c p.0, as_bytes cs p.1)

-- ---- how each kind is spelled
pub control_spelled : (c : ℕ) → is_control c ≡ true → spelling_of c ≡ 92 ∷ 120 ∷ two_digits c
control_spelled c h = rw h

pub hidden_spelled : (c : ℕ) → is_control c ≡ false → is_hidden c ≡ true → spelling_of c ≡ 92 ∷ 117 ∷ 123 ∷ (digits 16 false c ++ 125 ∷ [])
hidden_spelled c g h = rw (g, h)

pub backslash_spelled : spelling_of 92 ≡ 92 ∷ 92 ∷ []
backslash_spelled = refl

pub itself : (c : ℕ) → is_control c ≡ false → is_hidden c ≡ false → c ≢ 92 → spelling_of c ≡ c ∷ []
itself c g h other = rw (g, h, ne_eqb c 92 other)

-- and as bytes
pub control_bytes : (c : ℕ) → is_control c ≡ true
    → encode_utf8_all (spelling_of c) ≡ 92 ∷ 120 ∷ padded_integral (format_spec 32 0 4 2 (2 ^ 64 - 1)) false [] (digits 16 false c)
unfolding encode
control_bytes c h =
    ap encodes (control_spelled c h) ∙ ap (λ (xs : List ℕ). 92 ∷ 120 ∷ xs) (as_bytes (two_digits c) (pair_simple c h) ∙ sym (hex_byte false c (control_low c h)))

pub hidden_bytes : (c : ℕ) → is_control c ≡ false → is_hidden c ≡ true → encode_utf8_all (spelling_of c) ≡ 92 ∷ 117 ∷ 123 ∷ (digits 16 false c ++ 125 ∷ [])
unfolding encode
hidden_bytes c g h =
    ap encodes (hidden_spelled c g h)
    ∙ ap (λ (xs : List ℕ). 92 ∷ 117 ∷ 123 ∷ xs) (encodes-append (digits 16 false c) (125 ∷ []) ∙ ap (λ (xs : List ℕ). xs ++ 125 ∷ []) (as_bytes (digits 16 false c) (code_simple c h)))

pub kept_bytes : (c : ℕ) → is_control c ≡ false → is_hidden c ≡ false → c ≢ 92 → encode_utf8_all (spelling_of c) ≡ encode c
kept_bytes c g h other = ap encodes (itself c g h other) ∙ append-nil (encode c)
