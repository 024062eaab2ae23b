-- Hex digits stand in canonical JSON as they are.
use Rattle.std.proofs.Common.{◌≡◌, ◌≢◌, ℕ, zero, suc, ◌*◌, ◌/◌, ◌%◌, ◌<◌, List, [], ◌∷◌, ◌++◌, true, ◌&&◌, get_or, ne_eqb, refl, ap, ◌∙◌, arith, length, flat_map, IsUtf8, slice_index}
use Rattle.std.specs.List.{AllByRecursion, list_all}
use Rattle.std.proofs.lemmas.Bool.{and_parts, and_from, agree_below_at}
use Rattle.std.proofs.lemmas.Bool.Decides.{nat_tests}
use Rattle.std.proofs.lemmas.Str.{IsUtf8-from_ascii}
use Rattle.hex.specs.Hex.{encode_lower, encode_with, lower_digits}
use Rattle.path_patterns.specs.Bytes.{is_hex}
use Rattle.canonical_json.specs.Spelling.{byte_spelling}

abbrev pub IsHexText : List ℕ → Type 0
IsHexText text = list_all is_hex text ≡ true

no_mark : (b : ℕ) → is_hex b ≡ true → (b ≢ 34) × (b ≢ 92) × (b < 128)
no_mark b h = (grind (arith, nat_tests), grind (arith, nat_tests), grind (arith, nat_tests))

spelled_byte : (b : ℕ) → is_hex b ≡ true → byte_spelling b ≡ b ∷ []
spelled_byte b h = let m = no_mark b h in rw (ne_eqb b 34 m.0) (rw (ne_eqb b 92 m.1) refl)

pub plain_text : (bytes : List ℕ) → IsHexText bytes → flat_map byte_spelling bytes ≡ bytes
plain_text [] h = refl
plain_text (b ∷ bytes) h =
    let p = and_parts (is_hex b) (list_all is_hex bytes) h in
    ap (λ s. s ++ flat_map byte_spelling bytes) (spelled_byte b p.0) ∙ ap (λ s. b ∷ s) (plain_text bytes p.1)

ascii_at : (bytes : List ℕ) → IsHexText bytes → (k : ℕ) → get_or bytes k 0 < 128
ascii_at [] h k = omega arith
ascii_at (b ∷ bytes) h zero = (no_mark b (and_parts (is_hex b) (list_all is_hex bytes) h).0).2
ascii_at (b ∷ bytes) h (suc k) = ascii_at bytes (and_parts (is_hex b) (list_all is_hex bytes) h).1 k

pub hex_utf8 : (bytes : List ℕ) → IsHexText bytes → IsUtf8 bytes
hex_utf8 bytes h = IsUtf8-from_ascii bytes (ascii_at bytes h)

digit_of : (v : ℕ) → v < 16 → is_hex (slice_index lower_digits v) ≡ true
digit_of v h = agree_below_at (λ k. is_hex (slice_index lower_digits k)) (λ k. true) 16 v refl h

-- the digits of bytes
pub encoded_hex : (bytes : List ℕ) → AllByRecursion (λ b. b < 256) bytes → IsHexText (encode_lower bytes)
unfolding encode_with
encoded_hex [] all = refl
encoded_hex (b ∷ rest) all =
    and_from (is_hex (slice_index lower_digits (b / 16))) (is_hex (slice_index lower_digits (b % 16)) && list_all is_hex (encode_lower rest))
    (digit_of (b / 16) (omega (arith, all.0)))
    (and_from (is_hex (slice_index lower_digits (b % 16))) (list_all is_hex (encode_lower rest)) (digit_of (b % 16) (omega (arith, all.0))) (encoded_hex rest all.1))

pub encoded_length : (bytes : List ℕ) → length (encode_lower bytes) ≡ 2 * length bytes
unfolding encode_with
encoded_length [] = refl
encoded_length (b ∷ rest) = let e : length (encode_lower rest) ≡ 2 * length rest = encoded_length rest in omega (arith, e)
