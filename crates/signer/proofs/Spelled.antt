-- The text of a file with signatures is the canonical text of its object.
use Rattle.std.proofs.Common.{◌≡◌, ℕ, List, [], ◌∷◌, ◌++◌, sym, ap, ap₂, ◌∙◌, append_assoc, codes}
use Rattle.std.specs.List.{AllByRecursion, join_with_byte}
use Rattle.canonical_json.specs.Json.{Json}
use Rattle.canonical_json.specs.Spelling.{item_spellings, spelling}
use Rattle.keys_roles.specs.Plain.{Signature}
use Rattle.document_parts.specs.Parts.{signature_object}
use Rattle.signer.specs.Files.{file_text, items_of}
use Rattle.signer.specs.steps.Texts.{entries_text, entry_text, parts_text}
use Rattle.signer.proofs.Plain.{IsHexText, plain_text}

regrouped : (i d : List ℕ) → ((i ++ 34 ∷ []) ++ (44 ∷ (codes "\"sig\":" ++ (34 ∷ (d ++ 34 ∷ []))))) ++ 125 ∷ [] ≡ i ++ (codes "\",\"sig\":\"" ++ (d ++ codes "\"}"))
regrouped i d = simp append_assoc

pub spelled_entry : (id digits : List ℕ) → IsHexText id → IsHexText digits → spelling (signature_object id digits) ≡ entry_text id digits
spelled_entry id digits plain_id plain_digits =
    ap₂ (λ i d. codes "{\"keyid\":\"" ++ (((i ++ 34 ∷ []) ++ (44 ∷ (codes "\"sig\":" ++ (34 ∷ (d ++ 34 ∷ []))))) ++ 125 ∷ [])) (plain_text id plain_id) (plain_text digits plain_digits)
    ∙ ap (λ rest. codes "{\"keyid\":\"" ++ rest) (regrouped id digits)

-- hex digits in both texts
pub record IsPlainEntry (e : Signature) : Type 0 where
  pub keyid : IsHexText e.keyid
  pub sig : IsHexText e.sig

spelled_items : (es : List Signature) (id digits : List ℕ) → AllByRecursion IsPlainEntry es → IsHexText id → IsHexText digits
    → join_with_byte 44 (item_spellings (items_of (es ++ record { keyid = id; sig = digits } ∷ []))) ≡ entries_text es ++ entry_text id digits
spelled_items [] id digits all plain_id plain_digits = spelled_entry id digits plain_id plain_digits
spelled_items (e ∷ []) id digits all plain_id plain_digits =
    ap₂ (λ a b. a ++ (44 ∷ b)) (spelled_entry e.keyid e.sig all.0.keyid all.0.sig) (spelled_items [] id digits tt plain_id plain_digits)
    ∙ sym (append_assoc (entry_text e.keyid e.sig) (44 ∷ []) (entry_text id digits))
spelled_items (e ∷ f ∷ es) id digits all plain_id plain_digits =
    ap₂ (λ a b. a ++ (44 ∷ b)) (spelled_entry e.keyid e.sig all.0.keyid all.0.sig) (spelled_items (f ∷ es) id digits all.1 plain_id plain_digits)
    ∙ sym (append_assoc (entry_text e.keyid e.sig) (44 ∷ entries_text (f ∷ es)) (entry_text id digits))

pub around : (j p : List ℕ) → ((j ++ 93 ∷ []) ++ (44 ∷ (codes "\"signed\":" ++ p))) ++ 125 ∷ [] ≡ j ++ (codes "],\"signed\":" ++ (p ++ codes "}"))
around j p = simp append_assoc

pub parts_are : (es : List Signature) (id digits : List ℕ) (part : Json) → AllByRecursion IsPlainEntry es → IsHexText id → IsHexText digits
    → parts_text es id digits (spelling part) ≡ file_text (es ++ record { keyid = id; sig = digits } ∷ []) part
parts_are es id digits part all plain_id plain_digits =
    let joined = spelled_items es id digits all plain_id plain_digits in
    ap (λ rest. codes "{\"signatures\":[" ++ rest) (
    sym (append_assoc (entries_text es) (entry_text id digits) (codes "],\"signed\":" ++ (spelling part ++ codes "}")))
    ∙ sym (around (entries_text es ++ entry_text id digits) (spelling part))
    ∙ ap (λ j. ((j ++ 93 ∷ []) ++ (44 ∷ (codes "\"signed\":" ++ spelling part))) ++ 125 ∷ []) (sym joined))
