-- The canonical form of a key object: the hex digits stand in it as they are.
use Rattle.std.proofs.Common.{◌≡◌, ℕ, zero, suc, ◌/◌, ◌%◌, List, [], ◌∷◌, ◌++◌, refl, sym, ap, ◌∙◌, append_assoc, flat_map, codes}
use Rattle.std.specs.Prelude.{slice_index}
use Rattle.std.specs.List.{AllByRecursion}
use Rattle.hex.specs.Hex.{encode_lower, encode_with, lower_digits}
use Rattle.canonical_json.specs.Spelling.{byte_spelling, text_spelling}
use Rattle.keys_roles.specs.Plain.{lms, hss}
use Rattle.keys_roles.specs.Keys.{key_bytes}

abbrev IsPlain : ℕ → Type 0
IsPlain b = byte_spelling b ≡ b ∷ []

plain_at : (xs : List ℕ) → AllByRecursion IsPlain xs → (n : ℕ) → IsPlain (slice_index xs n)
plain_at [] all n = refl
plain_at (x ∷ xs) all zero = all.0
plain_at (x ∷ xs) all (suc n) = plain_at xs all.1 n

digits_are_plain : AllByRecursion IsPlain lower_digits
digits_are_plain = (refl, (refl, (refl, (refl, (refl, (refl, (refl, (refl, (refl, (refl, (refl, (refl, (refl, (refl, (refl, (refl, tt))))))))))))))))

spelled_plain : (bytes : List ℕ) → flat_map byte_spelling (encode_lower bytes) ≡ encode_lower bytes
unfolding encode_with
spelled_plain [] = refl
spelled_plain (b ∷ rest) =
    let high = slice_index lower_digits (b / 16) in
    let low = slice_index lower_digits (b % 16) in
    let behind = flat_map byte_spelling (encode_lower rest) in
    ap (λ s. s ++ (byte_spelling low ++ behind)) (plain_at lower_digits digits_are_plain (b / 16))
    ∙ ap (λ s. high ∷ (s ++ behind)) (plain_at lower_digits digits_are_plain (b % 16))
    ∙ ap (λ s. high ∷ low ∷ s) (spelled_plain rest)

abbrev pub before_digits : List ℕ
before_digits = codes "{\"keytype\":\"lms\",\"keyval\":{\"public\":\""

abbrev pub behind_lms : List ℕ
behind_lms = codes "\"},\"scheme\":\"lms-sha256\"}"

abbrev pub behind_hss : List ℕ
behind_hss = codes "\"},\"scheme\":\"hss-sha256\"}"

regrouped : (s a b c d : List ℕ) → s ++ (a ++ (b ++ (c ++ d))) ≡ (((s ++ a) ++ b) ++ c) ++ d
regrouped s a b c d = simp append_assoc

-- the last member, behind its comma
abbrev scheme_member : List ℕ → List ℕ
scheme_member name = 44 ∷ (text_spelling (codes "scheme") ++ 58 ∷ text_spelling name)

pub lms_bytes_are : (public : List ℕ) → (before_digits ++ encode_lower public) ++ behind_lms ≡ key_bytes (lms public)
lms_bytes_are public =
    ap (λ digits. before_digits ++ (digits ++ behind_lms)) (sym (spelled_plain public))
    ∙ ap (λ rest. before_digits ++ rest) (regrouped (flat_map byte_spelling (encode_lower public)) (34 ∷ []) (125 ∷ []) (scheme_member (codes "lms-sha256")) (125 ∷ []))

pub hss_bytes_are : (public : List ℕ) → (before_digits ++ encode_lower public) ++ behind_hss ≡ key_bytes (hss public)
hss_bytes_are public =
    ap (λ digits. before_digits ++ (digits ++ behind_hss)) (sym (spelled_plain public))
    ∙ ap (λ rest. before_digits ++ rest) (regrouped (flat_map byte_spelling (encode_lower public)) (34 ∷ []) (125 ∷ []) (scheme_member (codes "hss-sha256")) (125 ∷ []))
