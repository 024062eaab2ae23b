-- Texts that are cut at a byte that is no digit, behind a number.
use Rattle.std.proofs.Common.{◌≡◌, ℕ, ◌<◌, ◌^◌, List, ◌∷◌, ◌++◌, false, sym, ◌∙◌, arith}
use Rattle.std.proofs.lemmas.Bool.Decides.{nat_tests}
use Rattle.std.proofs.lemmas.Fmt.{digits_decimal, IsAscii-decimal}
use Rattle.std.proofs.lemmas.Str.{IsUtf8-from_ascii}
use Rattle.std.proofs.lemmas.Str.Parse.{IsNumeralModel, numerals_by_value, tells_digits, not_in_digits}
use Rattle.std.specs.Char.{is_ascii_digit}
use Rattle.std.specs.Fmt.{decimal}
use Rattle.std.specs.Int.{IsInRange}
use Rattle.std.specs.Str.{IsUtf8}
use Rattle.std.specs.Str.Parse.{AllDigits, digits_value}
use Rattle.http_messages.specs.steps.Cutting.{Lacks}
use Rattle.http_messages.proofs.Frames.{split-once}

own : IsNumeralModel (AllDigits 10) (digits_value 10)
own = numerals_by_value (AllDigits 10) tells_digits

no_digit : (byte : ℕ) → is_ascii_digit byte ≡ false → IsInRange 48 57 byte → ⊥
no_digit byte other r = let low = r.0 in let high = r.1 in grind (arith, nat_tests)

-- a number lacks what is no digit
pub number_lacks : (byte n : ℕ) → is_ascii_digit byte ≡ false → n < 2 ^ 64 → Lacks byte (decimal n)
number_lacks byte n other h = not_in_digits own (decimal n) byte (digits_decimal own n h) (no_digit byte other)

-- so a text is a number before such a byte in one way
pub one_number : (byte n : ℕ) (text digits rest more : List ℕ) → is_ascii_digit byte ≡ false → n < 2 ^ 64 → text ≡ digits ++ byte ∷ more → Lacks byte digits
    → text ≡ decimal n ++ byte ∷ rest → (digits ≡ decimal n) × (rest ≡ more)
one_number byte n text digits rest more other h a lacks b =
    let p = split-once byte digits (decimal n) more rest lacks (number_lacks byte n other h) (sym a ∙ b) in
    (p.0, sym p.1)

pub number_utf8 : (n : ℕ) → n < 2 ^ 64 → IsUtf8 (decimal n)
number_utf8 n h = IsUtf8-from_ascii (decimal n) (IsAscii-decimal n h)
