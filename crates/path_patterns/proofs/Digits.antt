-- Hex digits of lower case are just what bytes are spelled in.
use Rattle.std.proofs.Common.{◌≡◌, ℕ, zero, suc, ◌+◌, ◌-◌, ◌*◌, ◌/◌, ◌%◌, ◌<◌, List, [], ◌∷◌, length, Bool, true, cond, not, ◌&&◌, ◌||◌, ◌==◌, Ok, slice_index, refl, sym, ◌∙◌, ap, arith, ⊎_elim}
use Rattle.std.specs.Prelude.{nat_le, nat_lt}
use Rattle.std.proofs.lemmas.Bool.{and_parts, and_from, or_cases, both_ways, not-true, ltb-true, leb-true, eqb-true, agree_below_at}
use Rattle.std.specs.List.{AllByRecursion, list_all}
use Rattle.hex.specs.Hex.{encode_with, encode_lower, lower_digits, decode_of, decode_sized, IsBytes}
use Rattle.hex.proofs.HexLemmas.{length-encode_with, decode_of-encode_lower, decode_sized-encode_lower}
use Rattle.path_patterns.specs.Bytes.{is_digit, is_hex}
use Rattle.path_patterns.specs.Grammar.{IsHex}
use Rattle.path_patterns.specs.Names.{IsDigest}

-- what a digit stands for
abbrev value : ℕ → ℕ
value c = cond (nat_le c 57) (c - 48) (c - 87)

-- a digit stands for less than 16, and is the digit of that
abbrev reads_back : ℕ → Bool
reads_back c = not (is_hex c) || (nat_lt (value c) 16 && (slice_index lower_digits (value c) == c))

most : (c : ℕ) → is_hex c ≡ true → c < 128
most c h = ⊎_elim
    (λ l. let p = and_parts (nat_le 48 c) (nat_le c 57) l in let e = leb-true c 57 p.1 in omega arith)
    (λ r. let p = and_parts (nat_le 97 c) (nat_le c 102) r in let e = leb-true c 102 p.1 in omega arith)
    (or_cases (is_digit c) (nat_le 97 c && nat_le c 102) h)

digit : (c : ℕ) → is_hex c ≡ true → (value c < 16) × (slice_index lower_digits (value c) ≡ c)
digit c h =
    let same : reads_back c ≡ true = agree_below_at reads_back (λ k. true) 128 c refl (most c h) in
    ⊎_elim
    (λ l. absurd (both_ways (is_hex c) (not-true (is_hex c) l) h))
    (λ r. let p = and_parts (nat_lt (value c) 16) (slice_index lower_digits (value c) == c) r in (ltb-true (value c) 16 p.0, eqb-true (slice_index lower_digits (value c)) c p.1))
    (or_cases (not (is_hex c)) (nat_lt (value c) 16 && (slice_index lower_digits (value c) == c)) same)

is_digit_of : (v : ℕ) → v < 16 → is_hex (slice_index lower_digits v) ≡ true
is_digit_of v h = agree_below_at (λ k. is_hex (slice_index lower_digits k)) (λ k. true) 16 v refl h

both : (a b c d : ℕ) (xs ys : List ℕ) → a ≡ b → c ≡ d → xs ≡ ys → ◌≡◌ {A = List ℕ} (a ∷ c ∷ xs) (b ∷ d ∷ ys)
both a b c d xs ys e f g = cc

-- digits, two by two, spell bytes
pub spelled : (text : List ℕ) → length text % 2 ≡ 0 → list_all is_hex text ≡ true
    → (bytes : List ℕ) × AllByRecursion (λ b. b < 256) bytes × (text ≡ encode_lower bytes)
unfolding encode_with
spelled [] even h = ([], tt, refl)
spelled (c ∷ []) even h = absurd (omega (arith, even))
spelled (c ∷ d ∷ rest) even h =
    let high = and_parts (is_hex c) (list_all is_hex (d ∷ rest)) h in
    let low = and_parts (is_hex d) (list_all is_hex rest) high.1 in
    let x = digit c high.0 in
    let y = digit d low.0 in
    let more = spelled rest (omega (arith, even)) low.1 in
    let up : (16 * value c + value d) / 16 ≡ value c = omega (arith, x.0, y.0) in
    let down : (16 * value c + value d) % 16 ≡ value d = omega (arith, x.0, y.0) in
    let first : slice_index lower_digits ((16 * value c + value d) / 16) ≡ c = ap (slice_index lower_digits) up ∙ x.1 in
    let second : slice_index lower_digits ((16 * value c + value d) % 16) ≡ d = ap (slice_index lower_digits) down ∙ y.1 in
    ((16 * value c + value d) ∷ more.0, (omega (arith, x.0, y.0), more.1), both _ _ _ _ _ _ (sym first) (sym second) more.2)

-- bytes are spelled in digits
pub spells : (bytes : List ℕ) → AllByRecursion (λ b. b < 256) bytes → list_all is_hex (encode_lower bytes) ≡ true
unfolding encode_with
spells [] all = refl
spells (b ∷ bs) all =
    and_from (is_hex (slice_index lower_digits (b / 16))) (is_hex (slice_index lower_digits (b % 16)) && list_all is_hex (encode_lower bs))
    (is_digit_of (b / 16) (omega (arith, all.0)))
    (and_from (is_hex (slice_index lower_digits (b % 16))) (list_all is_hex (encode_lower bs)) (is_digit_of (b % 16) (omega (arith, all.0))) (spells bs all.1))

pub bytes_at : (bytes : List ℕ) → AllByRecursion (λ b. b < 256) bytes → IsBytes bytes
bytes_at [] all i = omega arith
bytes_at (b ∷ bs) all zero = all.0
bytes_at (b ∷ bs) all (suc i) = bytes_at bs all.1 i

pub bytes_each : (bytes : List ℕ) → IsBytes bytes → AllByRecursion (λ b. b < 256) bytes
bytes_each [] at = tt
bytes_each (b ∷ bs) at = (at zero, bytes_each bs (λ i. at (suc i)))

-- 64 digits are read as the 32 bytes that they spell
pub read_digits : (text : List ℕ) → IsHex 64 text → (bytes : List ℕ) × (decode_sized text 32 ≡ Ok bytes) × (text ≡ encode_lower bytes) × IsDigest bytes
read_digits text is =
    let even : length text % 2 ≡ 0 = omega (arith, is.0) in
    let s = spelled text even is.1 in
    let len = length-encode_with lower_digits s.0 in
    let whole : length s.0 ≡ 32 = omega (arith, len, is.0, ap length s.2) in
    (s.0, ap (λ (t : List ℕ). decode_sized t 32) s.2 ∙ decode_sized-encode_lower s.0 32 whole (bytes_at s.0 s.1), s.2, (whole, s.1))

-- bytes are known by their digits
pub digits_one : (a b : List ℕ) → IsBytes a → IsBytes b → encode_lower a ≡ encode_lower b → a ≡ b
digits_one a b bytes bytes' same =
    let ok = sym (decode_of-encode_lower a bytes) ∙ ap decode_of same ∙ decode_of-encode_lower b bytes' in
    cc

pub is_digest : (bytes : List ℕ) → length bytes ≡ 32 → IsBytes bytes → IsDigest bytes
is_digest bytes long at = (long, bytes_each bytes at)

-- ---- the law
pub digits_of_digest : (d : List ℕ) → IsDigest d → IsHex 64 (encode_lower d)
digits_of_digest d is = let len = length-encode_with lower_digits d in (omega (arith, len, is.0), spells d is.1)

pub digest_of_digits : (text : List ℕ) → IsHex 64 text → (d : List ℕ) × IsDigest d × (text ≡ encode_lower d)
digest_of_digits text is = let r = read_digits text is in (r.0, r.3, r.2)

pub one_digest : (d e : List ℕ) → IsDigest d → IsDigest e → encode_lower d ≡ encode_lower e → d ≡ e
one_digest d e is is' same = digits_one d e (bytes_at d is.1) (bytes_at e is'.1) same
