-- Numerals that fit 64 bits are what the library writes.
use Rattle.std.proofs.Common.{◌≡◌, ℕ, zero, suc, ◌<◌, ◌^◌, refl, sym, arith, codes, pos, negsuc}
use Rattle.std.specs.Fmt.{decimal, digits}
use Rattle.std.proofs.lemmas.Fmt.{decimal-digits_of, decimal_digit}
use Rattle.canonical_json.specs.Spelling.{numeral, integer_spelling}

pub numeral_is_decimal : (n : ℕ) → n < 2 ^ 64 → numeral n ≡ decimal n
unfolding numeral
numeral_is_decimal zero h = sym (decimal_digit 0 (omega arith))
numeral_is_decimal (suc n) h = sym (decimal-digits_of (suc n) (omega arith) h)

pub example_least : integer_spelling (negsuc 9223372036854775807) ≡ codes "-9223372036854775808"
unfolding digits
example_least = rw (numeral_is_decimal 9223372036854775808 (omega arith)) refl

pub example_one : integer_spelling (pos 1) ≡ codes "1"
unfolding digits
example_one = rw (numeral_is_decimal 1 (omega arith)) refl
