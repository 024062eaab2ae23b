-- Signatures in hex digits: how long they are, and how they are read.
use Rattle.std.proofs.Common.{◌≡◌, ℕ, zero, suc, ◌+◌, ◌*◌, ◌<◌, ◌≤◌, List, length, ◌++◌, Result, Ok, Err, refl, ap, ◌∙◌, arith, length-append}
use Rattle.std.specs.Prelude.{IsOk, OnOk}
use Rattle.hex.specs.Hex.{lower_digits, decode_sized}
use Rattle.hex.proofs.HexLemmas.{length-encode_with, decode_sized-encode_lower}
use Rattle.path_patterns.proofs.Digits.{bytes_at}
use Rattle.lms.specs.declared.OtsType.{OtsType}
use Rattle.lms.specs.declared.OtsType.TheVariants.{W1, W2, W4, W8}
use Rattle.lms.specs.declared.LmsType.{LmsType}
use Rattle.lms.specs.declared.LmsType.TheVariants.{H5, H10, H15, H20, H25}
use Rattle.lms.specs.Parameters.{chain_count, height}
use Rattle.lms.specs.Verifies.{Verifies}
use Rattle.lms.specs.Text.{u32}
use Rattle.lms.specs.Hss.{VerifiesDown, VerifiesHss}
use Rattle.lms.proofs.Bytes.{signature_length}
use Rattle.lms.proofs.HssReadings.{down_len, length_cut}
use Rattle.lms.specs.Parts.{IsSignatureOf}
use Rattle.keys_roles.specs.Plain.{Key, lms, hss}
use Rattle.keys_roles.specs.Keys.{VerifiesUnder}
use Rattle.keys_roles.specs.Rules.{AreDigitsOf, SpellsSignature}

chains_most : (ots : OtsType) → chain_count ots ≤ 265
chains_most W1 = omega arith
chains_most W2 = omega arith
chains_most W4 = omega arith
chains_most W8 = omega arith

height_most : (t : LmsType) → height t ≤ 25
height_most H5 = omega arith
height_most H10 = omega arith
height_most H15 = omega arith
height_most H20 = omega arith
height_most H25 = omega arith

parts_of : (public message signature : List ℕ) (v : Verifies public message signature) → IsSignatureOf v.lms v.ots signature v.q v.randomizer v.elements v.path
parts_of public message signature v = record {
  randomizer_len = v.randomizer_len;
  elements_count = v.elements_count;
  elements_len = v.elements_len;
  path_count = v.path_count;
  path_len = v.path_len;
  spelled = v.spelled;
  leaf = v.leaf;
}

lms_longest : (public message signature : List ℕ) → Verifies public message signature → length signature ≤ 9324
lms_longest public message signature v =
    let len = signature_length v.lms v.ots signature v.q v.randomizer v.elements v.path (parts_of public message signature v) in
    omega (arith, len, chains_most v.ots, height_most v.lms)

one_more : (n s t l r : ℕ) → s ≤ 9324 → t ≡ 56 → l ≤ 9324 + n * 9380 → r ≡ s + (t + l) → r ≤ 9324 + suc n * 9380
one_more n s t l r = omega arith

down_longest : (n : ℕ) (public message rest : List ℕ) → VerifiesDown n public message rest → length rest ≤ 9324 + n * 9380
down_longest zero public message rest v = lms_longest public message rest v
down_longest (suc n) public message rest d =
    one_more n (length d.0) (length d.1) (length d.2) (length rest) (lms_longest public d.1 d.0 d.4) (down_len n d.1 message d.2 d.5) (down_longest n d.1 message d.2 d.5)
    (length_cut rest d.0 d.1 d.2 d.3)

eight_levels : (n r s w k : ℕ) → n < 8 → r ≤ 9324 + n * 9380 → s ≡ w → w ≡ k + r → k ≡ 4 → s ≤ 74988
eight_levels n r s w k = omega arith

hss_longest : (public message signature : List ℕ) → VerifiesHss public message signature → length signature ≤ 74988
hss_longest public message signature v =
    let word = u32 v.signed_keys in
    eight_levels v.signed_keys (length v.rest) (length signature) (length (word ++ v.rest)) (length word) v.levels.few
    (down_longest v.signed_keys v.top message v.rest v.down) (ap length v.levels.spelled) (length-append word v.rest) refl

pub longest : (key : Key) (message signature : List ℕ) → VerifiesUnder key message signature → length signature ≤ 74988
longest (lms public) message signature v = let h = lms_longest public message signature v in omega (arith, h)
longest (hss public) message signature v = hss_longest public message signature v

pub digits_length : (digits bytes : List ℕ) → AreDigitsOf digits bytes → length digits ≡ 2 * length bytes
digits_length digits bytes are = ap length are.1 ∙ length-encode_with lower_digits bytes

pub spelled_length : (key : Key) (signed digits : List ℕ) → SpellsSignature key signed digits → (n : ℕ) × (length digits ≡ 2 * n) × (n ≤ 74988)
spelled_length key signed digits s = (length s.signature, digits_length digits s.signature s.spelled, longest key signed s.signature s.verifies)

-- the digits of some bytes decode to them, in room for as many
pub decodes : (digits bytes : List ℕ) (n : ℕ) → AreDigitsOf digits bytes → length digits ≡ 2 * n → decode_sized digits n ≡ Ok bytes
decodes digits bytes n are two =
    let len = digits_length digits bytes are in
    let room : length bytes ≡ n = omega (arith, len, two) in
    ap (λ d. decode_sized d n) are.1 ∙ decode_sized-encode_lower bytes n room (bytes_at bytes are.0)

-- what is written where there is a value
pub on_ok : {A E : Type 0} (r : Result A E) (P : Type 0) → IsOk r → OnOk r P → P
on_ok (Ok x) P is then = then
on_ok (Err e) P is then = absurd (cc is)
