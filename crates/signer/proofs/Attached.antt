-- Public keys as bytes, and a file that a signature is attached to.
use Rattle.std.proofs.Common.{◌≡◌, ◌≢◌, ◌⊎◌, inl, inr, Some, None, ℕ, zero, suc, ◌+◌, ◌-◌, ◌*◌, ◌^◌, ◌≤◌, ◌<◌, List, [], ◌∷◌, ◌++◌, refl, sym, ap, ◌∙◌, subst, arith, length, drop, append_assoc}
use Rattle.limits.specs.Limits.{file_limit, most_signatures}
use Rattle.std.specs.List.{AllByRecursion}
use Rattle.hex.specs.Hex.{encode_lower}
use Rattle.lms.specs.declared.OtsType.{OtsType}
use Rattle.lms.specs.declared.LmsType.{LmsType}
use Rattle.lms.specs.Parameters.{lms_code, ots_code}
use Rattle.lms.specs.Text.{u32}
use Rattle.lms.specs.Verifies.{Verifies}
use Rattle.lms.specs.Hss.{AreLevels, VerifiesDown, VerifiesHss}
use Rattle.lms.proofs.Bytes.{cancel, lms_code_small, ots_code_small, word_one}
use Rattle.lms.proofs.Readings.{has_key, key_types}
use Rattle.path_patterns.specs.Grammar.{IsHex}
use Rattle.keys_roles.specs.Plain.{Key, lms, hss, Signature}
use Rattle.keys_roles.specs.Keys.{VerifiesUnder, id_of, public_bytes, top_key}
use Rattle.keys_roles.specs.Rules.{SpellsSignature}
use Rattle.keys_roles.proofs.Signatures.{spelled_length}
use Rattle.document_parts.specs.Parts.{AreSignatureDigits}
use Rattle.document_parts.specs.declared.documents.ShapeFault.{ShapeFault}
use Rattle.document_parts.specs.declared.documents.ShapeFault.TheVariants as shapes
use Rattle.denials.specs.declared.denial.Denial.{Denial}
use Rattle.denials.specs.declared.denial.Denial.TheVariants as denials
use Rattle.metadata.specs.Shape.{IsEnvelopeFault, IsSignedBy}
use Rattle.signer.specs.Attaching.{Attaches, HasKnownTypes, HasLevels, IsKeyOf, IsSoundOver, IsUnattached}
use Rattle.signer.specs.Faults.{denial_of_shape}
use Rattle.signer.specs.Files.{HasNoRoom, file_text, others, with_signature}
use Rattle.signer.specs.declared.attaching.AttachFault.TheVariants.{Denied}
use Rattle.signer.specs.steps.Texts.{parts_text}
use Rattle.signer.proofs.Plain.{encoded_hex}
use Rattle.signer.proofs.KeptEntries.{IsEntryText, all_more, all_others, distinct_with, length_more}
use Rattle.signer.proofs.SignedFiles.{entries_in, text_is}
use Rattle.signer.proofs.JoinedFiles.{text_of_part, with_entries}

-- ---- public keys

-- bytes are one key
pub one_key : (bytes : List ℕ) (a b : Key) → IsKeyOf bytes a → IsKeyOf bytes b → a ≡ b
one_key bytes (lms p) (lms q) h k = ap (λ (x : List ℕ). lms x) (h.1 ∙ sym k.1)
one_key bytes (hss p) (hss q) h k = ap (λ (x : List ℕ). hss x) (h.1 ∙ sym k.1)
one_key bytes (lms p) (hss q) h k = absurd (let n : length p ≡ length q = ap (length {A = ℕ}) (h.1 ∙ sym k.1) in omega (arith, n, h.0.1.0, k.0.1.0))
one_key bytes (hss p) (lms q) h k = absurd (let n : length p ≡ length q = ap (length {A = ℕ}) (h.1 ∙ sym k.1) in omega (arith, n, h.0.1.0, k.0.1.0))

-- how many bytes a key has
pub key_size : (bytes : List ℕ) (key : Key) → IsKeyOf bytes key → (length bytes ≡ 56) ⊎ (length bytes ≡ 60)
key_size bytes (lms p) h = inl (ap (length {A = ℕ}) (sym h.1) ∙ h.0.1.0)
key_size bytes (hss p) h = inr (ap (length {A = ℕ}) (sym h.1) ∙ h.0.1.0)

pub levels_in : (public rest : List ℕ) (n : ℕ) → public ≡ u32 n ++ rest → 1 ≤ n → n ≤ 8 → HasLevels (hss public)
levels_in public rest n is low high =
    let same : n ≡ n - 1 + 1 = omega (arith, low) in
    (u32 (n - 1) ++ [], n - 1, rest, [], record { few = omega (arith, low, high); key = is ∙ ap (λ (k : ℕ). u32 k ++ rest) same; spelled = refl })

pub few_levels : (public rest : List ℕ) (n : ℕ) → public ≡ u32 n ++ rest → n < 2 ^ 32 → HasLevels (hss public) → (1 ≤ n) × (n ≤ 8)
few_levels public rest n is low (s, k, top, r, a) =
    let words = cancel (u32 n) (u32 (k + 1)) rest top refl (sym is ∙ a.key) in
    let same : n ≡ k + 1 = word_one n (k + 1) low (omega (arith, a.few)) words.0 in
    (omega (arith, same), omega (arith, same, a.few))

pub types_in : (public rest more : List ℕ) (m n : ℕ) (t : LmsType) (o : OtsType) → public ≡ u32 m ++ rest → rest ≡ u32 n ++ more → m ≡ lms_code t → n ≡ ots_code o
    → HasKnownTypes public
types_in public rest more m n t o is next a b =
    let spelled = is ∙ ap (λ (x : List ℕ). u32 m ++ x) next ∙ sym (append_assoc (u32 m) (u32 n) more) ∙ ap (λ (k : ℕ). (u32 k ++ u32 n) ++ more) a
    ∙ ap (λ (k : ℕ). (u32 (lms_code t) ++ u32 k) ++ more) b in
    (t, o, (more, spelled))

-- known types are those of the two numbers in front
pub types_are : (public rest more : List ℕ) (m n : ℕ) → public ≡ u32 m ++ rest → m < 2 ^ 32 → rest ≡ u32 n ++ more → n < 2 ^ 32 → HasKnownTypes public
    → (t : LmsType) × (o : OtsType) × (m ≡ lms_code t) × (n ≡ ots_code o)
types_are public rest more m n is low next below (t, o, (r, e)) =
    let first = cancel (u32 m) (u32 (lms_code t)) rest (u32 (ots_code o) ++ r) refl (sym is ∙ e ∙ append_assoc (u32 (lms_code t)) (u32 (ots_code o)) r) in
    let second = cancel (u32 n) (u32 (ots_code o)) more r refl (sym next ∙ first.1) in
    (t, o, word_one m (lms_code t) low (lms_code_small t) first.0, word_one n (ots_code o) below (ots_code_small o) second.0)

down_types : (n : ℕ) (top message rest : List ℕ) → VerifiesDown n top message rest → HasKnownTypes top
down_types zero top message rest v = (v.lms, v.ots, key_types top v.lms v.ots v.identifier v.root (has_key top message rest v))
down_types (suc n) top message rest d =
    let v = d.4 in (v.lms, v.ots, key_types top v.lms v.ots v.identifier v.root (has_key top d.1 d.0 v))

-- a key under which anything verifies has levels and known types
pub may_verify : (key : Key) (message signature : List ℕ) → VerifiesUnder key message signature → HasLevels key × HasKnownTypes (top_key key)
may_verify (lms public) message signature v = (tt, down_types zero public message signature v)
may_verify (hss public) message signature v =
    let top : drop 4 public ≡ v.top = ap (drop 4) v.levels.key in
    ((signature, v.signed_keys, v.top, v.rest, v.levels), subst HasKnownTypes (sym top) (down_types v.signed_keys v.top message v.rest v.down))

-- ---- a file with a signature that is given

digits_are : (key : Key) (message signature : List ℕ) → VerifiesUnder key message signature → AllByRecursion (λ b. b < 256) signature → AreSignatureDigits (encode_lower signature)
digits_are key message signature v bytes =
    let s : SpellsSignature key message (encode_lower signature) = record { signature = signature; spelled = (bytes, refl); verifies = v } in
    let long = spelled_length key message (encode_lower signature) s in
    (omega (arith, long.1, long.2), omega (arith, long.1), encoded_hex signature bytes)

has_signature : (file : List ℕ) (entries : List Signature) (message id signature out : List ℕ) → IsSignedBy file entries message → IsHex 64 id
    → AllByRecursion (λ b. b < 256) signature → AreSignatureDigits (encode_lower signature) → length (others id entries) < most_signatures
    → out ≡ parts_text (others id entries) id (encode_lower signature) message → length out ≤ file_limit → IsSignedBy out (with_signature id signature entries) message
has_signature file entries message id signature out f hex bytes digits few is short =
    let new : Signature = record { keyid = id; sig = encode_lower signature } in
    let es = with_signature id signature entries in
    let all : AllByRecursion IsEntryText es = all_more IsEntryText (others id entries) new (all_others IsEntryText id entries (entries_in file entries message f)) (record { keyid = hex; sig = digits }) in
    let count = length_more (others id entries) new in
    with_entries file entries message es out f all (omega (arith, count, few)) (distinct_with id (encode_lower signature) entries f.2.envelope.signatures.2)
    (is ∙ text_is file entries message id signature f hex bytes ∙ sym (text_of_part file entries message es f all)) short

pub attached : (file : List ℕ) (entries : List Signature) (message : List ℕ) (key : Key) (id signature out : List ℕ) → IsSignedBy file entries message
    → VerifiesUnder key message signature → id ≡ id_of key → IsHex 64 id → AllByRecursion (λ b. b < 256) signature → length (others id entries) < most_signatures
    → out ≡ parts_text (others id entries) id (encode_lower signature) message → length out ≤ file_limit → Attaches file key signature out
attached file entries message key id signature out f v same hex bytes few is short = record {
  entries = entries;
  message = message;
  was = f;
  verifies = v;
  is = subst (λ (k : List ℕ). IsSignedBy out (with_signature k signature entries) message) same
      (has_signature file entries message id signature out f hex bytes (digits_are key message signature v bytes) few is short);
}

sound : (file : List ℕ) (entries : List Signature) (message : List ℕ) (key : Key) (signature : List ℕ) → (f : IsSignedBy file entries message)
    → VerifiesUnder key message signature → IsSoundOver file key signature entries f.0
sound file entries message key signature f v = record { message = message; type_name = f.1; was = f.2; signed = f; verifies = v }

pub too_many : (file : List ℕ) (entries : List Signature) (message : List ℕ) (key : Key) (id signature : List ℕ) → IsSignedBy file entries message
    → VerifiesUnder key message signature → id ≡ id_of key → most_signatures ≤ length (others id entries) → IsUnattached file key signature (Denied denials.WrongShape)
too_many file entries message key id signature f v same many =
    inr (entries, f.0, sound file entries message key signature f v, subst (λ (k : List ℕ). HasNoRoom k entries) same many)

pub too_long : (file : List ℕ) (entries : List Signature) (message : List ℕ) (key : Key) (id signature out : List ℕ) → IsSignedBy file entries message
    → VerifiesUnder key message signature → id ≡ id_of key → IsHex 64 id → AllByRecursion (λ b. b < 256) signature → length (others id entries) < most_signatures
    → out ≡ parts_text (others id entries) id (encode_lower signature) message → file_limit < length out → IsUnattached file key signature (Denied denials.TooLong)
too_long file entries message key id signature out f v same hex bytes few is long = inr (
  entries,
  f.0,
  sound file entries message key signature f v,
  (λ full. let many : most_signatures ≤ length (others id entries) = subst (λ (k : List ℕ). HasNoRoom k entries) (sym same) full in omega (arith, many, few)),
  subst (λ (k : List ℕ). file_limit < length (file_text (with_signature k signature entries) f.0)) same
      (subst (λ (text : List ℕ). file_limit < length text) (is ∙ text_is file entries message id signature f hex bytes) long),
)

pub envelope_denied : (file : List ℕ) (key : Key) (signature : List ℕ) (fault : ShapeFault) (denial : Denial) → denial_of_shape fault ≡ Some denial
    → (fault ≡ shapes.OutOfMemory) ⊎ IsEnvelopeFault file fault → IsUnattached file key signature (Denied denial)
envelope_denied file key signature fault denial is (inl none) = let e : None ≡ Some denial = sym (ap (λ (g : ShapeFault). denial_of_shape g) none) ∙ is in absurd (cc)
envelope_denied file key signature shapes.TooLong denial is (inr h) = let e : denials.TooLong ≡ denial = cc in subst (λ (d : Denial). IsUnattached file key signature (Denied d)) e (inl h)
envelope_denied file key signature shapes.NotCanonical denial is (inr h) = let e : denials.NotCanonical ≡ denial = cc in subst (λ (d : Denial). IsUnattached file key signature (Denied d)) e h
envelope_denied file key signature shapes.WrongShape denial is (inr h) = let e : denials.WrongShape ≡ denial = cc in subst (λ (d : Denial). IsUnattached file key signature (Denied d)) e (inl h)
envelope_denied file key signature shapes.WrongType denial is (inr h) = absurd h
envelope_denied file key signature shapes.BadKeyId denial is (inr h) = absurd h
envelope_denied file key signature shapes.OutOfMemory denial is (inr h) = absurd h
