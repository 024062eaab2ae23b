-- Ids compared by their digits, and the look-up of a key.
use Rattle.std.proofs.Common.{◌≡◌, ℕ, ◌∷◌, List, Some, cond, Bool, true, false, sym, ap, ◌∙◌, refl}
use Rattle.std.specs.Str.{bytes_eq}
use Rattle.hex.specs.Hex.{encode_lower, decode_of, IsBytes}
use Rattle.hex.proofs.HexLemmas.{decode_of-encode_lower}
use Rattle.keys_roles.specs.Plain.{look_up}
use Rattle.keys_roles.specs.Views.{id_text, key_view, rows_view}
use Rattle.keys_roles.specs.declared.KeyId.{KeyId}
use Rattle.keys_roles.specs.declared.Key.{Key}

pub same_verdict : (r s : Bool) → (r ≡ true → s ≡ true) → (s ≡ true → r ≡ true) → r ≡ s
same_verdict true true there back = refl
same_verdict true false there back = sym (there refl)
same_verdict false true there back = back refl
same_verdict false false there back = refl

pub digits_one : (a b : List ℕ) → IsBytes a → IsBytes b → encode_lower a ≡ encode_lower b → a ≡ b
digits_one a b bytes bytes' same =
    let ok = sym (decode_of-encode_lower a bytes) ∙ ap decode_of same ∙ decode_of-encode_lower b bytes' in
    cc

pub look_up_first : (rows later : List (KeyId × Key)) (row : KeyId × Key) (id : List ℕ) → rows ≡ row ∷ later → bytes_eq (id_text row.0) id ≡ true
    → look_up (rows_view rows) id ≡ Some (key_view row.1)
look_up_first rows later row id at h =
    ap (λ (rs : List (KeyId × Key)). look_up (rows_view rs) id) at ∙ ap (λ b. cond b (Some (key_view row.1)) (look_up (rows_view later) id)) h

pub look_up_later : (rows later : List (KeyId × Key)) (row : KeyId × Key) (id : List ℕ) → rows ≡ row ∷ later → bytes_eq (id_text row.0) id ≡ false
    → look_up (rows_view rows) id ≡ look_up (rows_view later) id
look_up_later rows later row id at h =
    ap (λ (rs : List (KeyId × Key)). look_up (rows_view rs) id) at ∙ ap (λ b. cond b (Some (key_view row.1)) (look_up (rows_view later) id)) h
