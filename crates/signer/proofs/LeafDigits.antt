-- The first eight digits of a signature.
use Rattle.std.proofs.Common.{◌≡◌, ℕ, zero, suc, ◌*◌, ◌^◌, ◌<◌, ◌≤◌, List, [], ◌∷◌, ◌++◌, refl, sym, ap, ◌∙◌, arith, length, length-append, get_or, take, drop}
use Rattle.std.specs.List.{AllByRecursion}
use Rattle.std.specs.Int.{w32, from_be_bytes}
use Rattle.std.proofs.lemmas.List.{take-append-drop}
use Rattle.std.proofs.lemmas.Nat.{be_bytes_4}
use Rattle.hex.specs.Hex.{encode_lower}
use Rattle.keys_roles.specs.Rules.{AreDigitsOf}
use Rattle.lms.specs.Text.{u32}
use Rattle.signer.specs.Leaves.{BeginsWithLeaf}
use Rattle.signer.proofs.Plain.{encoded_length}

-- there are eight
pub leaf_long : (digits : List ℕ) (leaf : ℕ) → BeginsWithLeaf digits leaf → 8 ≤ length digits
leaf_long digits leaf b =
    let whole : length digits ≡ length (encode_lower (u32 leaf) ++ b.1.0) = ap (λ (l : List ℕ). length l) b.1.1 in
    let parts = length-append (encode_lower (u32 leaf)) b.1.0 in
    let front : length (encode_lower (u32 leaf)) ≡ 2 * length (u32 leaf) = encoded_length (u32 leaf) in
    omega (arith, whole, parts, front)

take_front : (xs ys : List ℕ) → take (length xs) (xs ++ ys) ≡ xs
take_front [] ys = refl
take_front (x ∷ xs) ys = ap (λ (l : List ℕ). x ∷ l) (take_front xs ys)

-- they are those of the leaf
pub leaf_front : (digits : List ℕ) (leaf : ℕ) → BeginsWithLeaf digits leaf → AreDigitsOf (take 8 digits) (u32 leaf)
leaf_front digits leaf b =
    let front : length (encode_lower (u32 leaf)) ≡ 8 = encoded_length (u32 leaf) in (
      (omega arith, (omega arith, (omega arith, (omega arith, tt)))),
      ap (λ (l : List ℕ). take 8 l) b.1.1 ∙ ap (λ (n : ℕ). take n (encode_lower (u32 leaf) ++ b.1.0)) (sym front) ∙ take_front (encode_lower (u32 leaf)) b.1.0,
    )

byte_at : (bs : List ℕ) → AllByRecursion (λ b. b < 256) bs → (i : ℕ) → get_or bs i 0 < 256
byte_at [] all i = omega arith
byte_at (b ∷ bs) all zero = all.0
byte_at (b ∷ bs) all (suc i) = byte_at bs all.1 i

-- the leaf that was read of them
pub leaf_read : (sig digits bs : List ℕ) (n : ℕ) → digits ≡ sig → length bs ≡ 4 → n < 2 ^ 32 → n ≡ from_be_bytes w32 bs → AreDigitsOf (take 8 digits) bs → BeginsWithLeaf sig n
leaf_read sig digits bs n same four low is read =
    let bytes : u32 n ≡ bs = be_bytes_4 bs n four (byte_at bs read.0) is in
    let front : take 8 digits ≡ encode_lower (u32 n) = read.1 ∙ ap (λ (l : List ℕ). encode_lower l) (sym bytes) in
    let whole : digits ≡ encode_lower (u32 n) ++ drop 8 digits = sym (take-append-drop 8 digits) ∙ ap (λ (l : List ℕ). l ++ drop 8 digits) front in
    (low, (drop 8 digits, sym same ∙ whole))
