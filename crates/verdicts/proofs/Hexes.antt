-- Words that write no bytes down, or not so many.
use Rattle.std.proofs.Common.{◌≡◌, ℕ, ◌∙◌, sym, ap, refl, List, [], ◌∷◌, length, Ok, Err, false, codes, arith}
use Rattle.std.proofs.lemmas.Bool.{false≢true}
use Rattle.std.specs.Str.{bytes_eq}
use Rattle.hex.specs.Hex.{IsBytes, decode_of, encode_lower, lower_digits}
use Rattle.hex.specs.declared.error.FromHexError.{FromHexError}
use Rattle.hex.proofs.HexLemmas.{decode_of-encode_lower, decode_of-same, length-encode_with}
use Rattle.keys_roles.specs.Keys.{public_bytes, public_len}
use Rattle.keys_roles.specs.Views.{key_view}
use Rattle.keys_roles.specs.declared.Key.{Key}
use Rattle.keys_roles.specs.declared.Key.TheVariants.{Lms, Hss}
use Rattle.verdicts.specs.Case.{IsBytesOf}
use Rattle.verdicts.specs.Words.{hex_word}

-- the word stands for no bytes
abbrev pub IsNoHex : List ℕ → Type 0
IsNoHex word = (bytes : List ℕ) → IsBytes bytes → word ≡ hex_word bytes → ⊥

-- only a dash stands for none, and the rest is hex
by_hex : (word : List ℕ) → bytes_eq word (codes "-") ≡ false
    → ((b : ℕ) (bs : List ℕ) → IsBytes (b ∷ bs) → word ≡ encode_lower (b ∷ bs) → ⊥) → IsNoHex word
by_hex word other none [] fits is = let same : bytes_eq (codes "-") (codes "-") ≡ false = rw is at other in false≢true (sym same)
by_hex word other none (b ∷ bs) fits is = none b bs fits is

-- what the decoder refuses
pub refused : (word : List ℕ) (e : FromHexError) → bytes_eq word (codes "-") ≡ false → decode_of word ≡ Err e → IsNoHex word
refused word e other bad =
    by_hex word other (λ b bs fits is.
    let good : decode_of word ≡ Ok (b ∷ bs) = rw is (decode_of-encode_lower (b ∷ bs) fits) in
    cc (sym bad ∙ good))

-- what is not the text of the bytes that it decodes to
pub respelled : (word bytes : List ℕ) → bytes_eq word (codes "-") ≡ false → decode_of word ≡ Ok bytes
    → (word ≡ encode_lower bytes → ⊥) → IsNoHex word
respelled word bytes other good not_same =
    by_hex word other (λ b bs fits is.
    let same : bytes ≡ b ∷ bs = decode_of-same word bytes (b ∷ bs) good (rw is (decode_of-encode_lower (b ∷ bs) fits)) in
    not_same (rw same is))

-- what decodes to nothing
pub empty : (word bytes : List ℕ) → bytes_eq word (codes "-") ≡ false → decode_of word ≡ Ok bytes → length bytes ≡ 0 → IsNoHex word
empty word bytes other good none =
    by_hex word other (λ b bs fits is.
    let same : bytes ≡ b ∷ bs = decode_of-same word bytes (b ∷ bs) good (rw is (decode_of-encode_lower (b ∷ bs) fits)) in
    let one : length (b ∷ bs) ≡ 0 = rw same at none in
    omega (arith, one))

-- bytes have one word
pub hex_word_one : (a b : List ℕ) → IsBytes a → IsBytes b → hex_word a ≡ hex_word b → a ≡ b
hex_word_one [] [] _ _ _ = refl
hex_word_one [] (b ∷ bs) _ _ same =
    let e : length (codes "-") ≡ length (encode_lower (b ∷ bs)) = ap length same in
    absurd (omega (arith, e, length-encode_with lower_digits (b ∷ bs)))
hex_word_one (a ∷ as') [] _ _ same =
    let e : length (encode_lower (a ∷ as')) ≡ length (codes "-") = ap length same in
    absurd (omega (arith, e, length-encode_with lower_digits (a ∷ as')))
hex_word_one (a ∷ as') (b ∷ bs) p q same =
    decode_of-same (encode_lower (a ∷ as')) (a ∷ as') (b ∷ bs) (decode_of-encode_lower (a ∷ as') p) (rw same (decode_of-encode_lower (b ∷ bs) q))

-- a word of bytes is no word of another number of bytes
pub of_another_length : (word bytes : List ℕ) (n : ℕ) → word ≡ hex_word bytes → IsBytes bytes → (length bytes ≡ n → ⊥)
    → (other : List ℕ) → IsBytes other → length other ≡ n → word ≡ hex_word other → ⊥
of_another_length word bytes n is fits unlike other fits' long is' =
    unlike (ap length (hex_word_one bytes other fits fits' (sym is ∙ is')) ∙ long)

-- nor is one of neither 56 nor 60 bytes one of a key
pub of_no_key : (word bytes : List ℕ) → word ≡ hex_word bytes → IsBytes bytes → (length bytes ≡ 56 → ⊥) → (length bytes ≡ 60 → ⊥)
    → (key : Key) → IsBytesOf (public_len (key_view key)) (public_bytes (key_view key)) → word ≡ hex_word (public_bytes (key_view key)) → ⊥
of_no_key word bytes is fits not_lms not_hss (Lms public) of is' = of_another_length word bytes 56 is fits not_lms public of.0 of.1 is'
of_no_key word bytes is fits not_lms not_hss (Hss public) of is' = of_another_length word bytes 60 is fits not_hss public of.0 of.1 is'
