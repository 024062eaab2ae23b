-- A file that was signed is one with these entries over the same part.
use Rattle.std.proofs.Common.{◌≡◌, ◌⊎◌, inl, inr, Ok, Err, Result, IfOk, length-append, ℕ, ◌+◌, ◌*◌, ◌≤◌, ◌<◌, List, [], ◌∷◌, ◌++◌, refl, sym, ap, ◌∙◌, subst, arith, length, codes}
use Rattle.limits.specs.Limits.{file_limit, most_signatures}
use Rattle.std.specs.List.{AllByRecursion}
use Rattle.hex.specs.Hex.{encode_lower}
use Rattle.lms.specs.declared.OtsType.{OtsType}
use Rattle.lms.specs.declared.OtsType.TheVariants.{W1, W2, W4, W8}
use Rattle.lms.specs.declared.SigningHeight.{SigningHeight}
use Rattle.lms.specs.declared.SigningHeight.TheVariants.{H5, H10}
use Rattle.lms.specs.declared.Params.{Params}
use Rattle.lms.specs.declared.Seed.{Seed}
use Rattle.lms.specs.Keys.{public_of}
use Rattle.lms.specs.Parameters.{signature_len, signing_type}
use Rattle.lms.specs.Verifies.{Verifies}
use Rattle.lms.proofs.Readings.{length_under}
use Rattle.canonical_json.specs.Json.{array, object, no_members, member}
use Rattle.canonical_json.specs.Spelling.{IsAllowed}
use Rattle.path_patterns.specs.Grammar.{IsHex}
use Rattle.keys_roles.specs.Plain.{Signature}
use Rattle.document_parts.specs.Parts.{AreSignatureDigits}
use Rattle.metadata.specs.Shape.{IsSignedBy}
use Rattle.denials.specs.declared.denial.Denial.{Denial}
use Rattle.denials.specs.declared.denial.Denial.TheVariants as denials
use Rattle.leaf_plans.specs.Book.{Book, key_of}
use Rattle.leaf_book.specs.declared.faults.BookFault.{BookFault}
use Rattle.leaf_book.specs.declared.faults.BookFault.TheVariants as books
use Rattle.signer.specs.Faults.{of_book}
use Rattle.signer.specs.Messages.{IsUnsigned, Signs}
use Rattle.signer.specs.declared.faults.SignFileFault.{SignFileFault}
use Rattle.signer.specs.declared.faults.SignFileFault.TheVariants.{Denied, OutOfMemory}
use Rattle.signer.specs.Files.{IsDenialOf, IsUnsignedFile, SignsFile, file_text, items_of, others, with_signature}
use Rattle.signer.specs.steps.Texts.{entries_text, entry_text, parts_text}
use Rattle.signer.proofs.Plain.{encoded_hex, encoded_length}
use Rattle.signer.proofs.Spelled.{IsPlainEntry, parts_are}
use Rattle.signer.proofs.KeptEntries.{IsEntryText, all_more, all_others, distinct_with, entries_are, items_are, length_more}
use Rattle.signer.proofs.Allowed.{allowed_with}

-- the signature has the length of the key's signatures
pub signature_is : (seed : Seed) (params : Params) (message signature : List ℕ) → Verifies (public_of seed params) message signature
    → length signature ≡ signature_len params.ots (signing_type params.height)
signature_is seed params message signature v =
    length_under (public_of seed params) signature v.lms v.ots v.identifier v.root v.q v.randomizer v.elements v.path (signing_type params.height) params.ots
    (record { identifier_len = v.identifier_len; root_len = v.root_len; key = v.key })
    (record { randomizer_len = v.randomizer_len; elements_count = v.elements_count; elements_len = v.elements_len; path_count = v.path_count; path_len = v.path_len; spelled = v.spelled; leaf = v.leaf })
    (_, refl)

pub most : (ots : OtsType) (height : SigningHeight) → 2 * signature_len ots (signing_type height) ≤ 18648
most W1 H5 = omega arith
most W1 H10 = omega arith
most W2 H5 = omega arith
most W2 H10 = omega arith
most W4 H5 = omega arith
most W4 H10 = omega arith
most W8 H5 = omega arith
most W8 H10 = omega arith

digits_are : (ots : OtsType) (height : SigningHeight) (signature : List ℕ) → AllByRecursion (λ b. b < 256) signature → length signature ≡ signature_len ots (signing_type height)
    → AreSignatureDigits (encode_lower signature)
digits_are ots height signature bytes long =
    let n = encoded_length signature in
    let m = most ots height in
    (omega (arith, n, m, long), omega (arith, n), encoded_hex signature bytes)

pub plain_entries : (es : List Signature) → AllByRecursion IsEntryText es → AllByRecursion IsPlainEntry es
plain_entries [] t = tt
plain_entries (e ∷ es) t = (record { keyid = t.0.keyid.1; sig = t.0.sig.2 }, plain_entries es t.1)

-- what a file says of its entries
pub entries_in : (file : List ℕ) (entries : List Signature) (message : List ℕ) → IsSignedBy file entries message → AllByRecursion IsEntryText entries
entries_in file entries message f = entries_are f.2.envelope.signatures.0.0 entries f.2.envelope.signatures.0.2

-- the text of the file with a signature, whatever it is
pub text_is : (file : List ℕ) (entries : List Signature) (message key signature : List ℕ) → (f : IsSignedBy file entries message) → IsHex 64 key
    → AllByRecursion (λ b. b < 256) signature
    → parts_text (others key entries) key (encode_lower signature) message ≡ file_text (with_signature key signature entries) f.0
text_is file entries message key signature f id bytes =
    let kept = all_others IsEntryText key entries (entries_in file entries message f) in
    ap (parts_text (others key entries) key (encode_lower signature)) f.3
    ∙ parts_are (others key entries) key (encode_lower signature) f.0 (plain_entries (others key entries) kept) id.1 (encoded_hex signature bytes)

pub is_signed : (file : List ℕ) (entries : List Signature) (message key signature out : List ℕ)
    → IsSignedBy file entries message → IsHex 64 key → AllByRecursion (λ b. b < 256) signature → AreSignatureDigits (encode_lower signature)
    → length (others key entries) < 16 → out ≡ parts_text (others key entries) key (encode_lower signature) message → length out ≤ file_limit
    → IsSignedBy out (with_signature key signature entries) message
is_signed file entries message key signature out f id bytes digits few is short =
    let new : Signature = record { keyid = key; sig = encode_lower signature } in
    let kept = all_others IsEntryText key entries (entries_in file entries message f) in
    let all = all_more IsEntryText (others key entries) new kept (record { keyid = id; sig = digits }) in
    let old = subst IsAllowed f.2.envelope.members f.2.file.canonical.allowed in
    let count = length_more (others key entries) new in (
      f.0,
      f.1,
      record {
        value = object (member (codes "signatures") (array (items_of (with_signature key signature entries))) (member (codes "signed") f.0 no_members));
        file = record {
          short = short;
          canonical = record {
            allowed = allowed_with f.2.envelope.list f.0 (with_signature key signature entries) all old;
            spelled = is ∙ text_is file entries message key signature f id bytes;
          };
        };
        envelope = record {
          list = array (items_of (with_signature key signature entries));
          members = refl;
          signatures = ((items_of (with_signature key signature entries), refl, items_are (with_signature key signature entries) all), omega (arith, count, few), distinct_with key (encode_lower signature) entries f.2.envelope.signatures.2);
          typed = f.2.envelope.typed;
        };
      },
      f.3,
    )

-- ---- lengths: the text grows with the digits alone

grown : (os : List Signature) (key digits message : List ℕ) → length (parts_text os key digits message) ≡ length (parts_text os key [] message) + length digits
grown os key digits message =
    let r = codes "],\"signed\":" ++ (message ++ codes "}") in
    let a1 = length-append (entries_text os) (entry_text key digits ++ r) in
    let a2 = length-append (entry_text key digits) r in
    let a3 = length-append key (codes "\",\"sig\":\"" ++ (digits ++ codes "\"}")) in
    let a4 = length-append digits (codes "\"}") in
    let b1 = length-append (entries_text os) (entry_text key [] ++ r) in
    let b2 = length-append (entry_text key []) r in
    let b3 = length-append key (codes "\",\"sig\":\"" ++ ([] ++ codes "\"}")) in
    omega (arith, a1, a2, a3, a4, b1, b2, b3)

pub same_length : (os : List Signature) (key s t message : List ℕ) → length s ≡ length t
    → length (parts_text os key (encode_lower s) message) ≡ length (parts_text os key (encode_lower t) message)
same_length os key s t message same =
    let a = grown os key (encode_lower s) message in
    let b = grown os key (encode_lower t) message in
    let c = encoded_length s in
    let d = encoded_length t in
    omega (arith, a, b, c, d, same)

-- ---- why none is signed

abbrev pub Judged : List ℕ → List Signature → List ℕ → ℕ → SignFileFault → Type 0
Judged key entries message count fault =
    (fault ≡ OutOfMemory) ⊎ (((fault ≡ Denied denials.WrongShape) × (most_signatures ≤ length (others key entries)))
    ⊎ ((fault ≡ Denied denials.TooLong) × (length (others key entries) < most_signatures)
    × ((signature : List ℕ) → length signature ≡ count → file_limit < length (parts_text (others key entries) key (encode_lower signature) message))))

-- a file is denied, or there was no memory
abbrev pub IsDeniedOr : List ℕ → ℕ → List ℕ → SignFileFault → Type 0
IsDeniedOr key count file fault = (fault ≡ OutOfMemory) ⊎ ((denial : Denial) × (fault ≡ Denied denial) × IsDenialOf key count file denial)

pub denied_by : (file : List ℕ) (entries : List Signature) (message key : List ℕ) (count : ℕ) (fault : SignFileFault)
    → IsSignedBy file entries message → IsHex 64 key → Judged key entries message count fault → IsDeniedOr key count file fault
denied_by file entries message key count fault f id (inl is) = inl is
denied_by file entries message key count fault f id (inr (inl many)) = inr (denials.WrongShape, many.0, inr (entries, f.0, f.1, f.2, many.1))
denied_by file entries message key count fault f id (inr (inr long)) = inr (
  denials.TooLong,
  long.0,
  inr (
    entries,
    f.0,
    f.1,
    f.2,
    long.1,
    (λ signature are. subst (λ (text : List ℕ). file_limit < length text) (text_is file entries message key signature f id are.1) (long.2 signature are.0)),
  ),
)

judged_by_key : (b : Book) (seed : Seed) (params : Params) (file : List ℕ) (entries : List Signature) (message : List ℕ) (fault : SignFileFault)
    → IsSignedBy file entries message → IsHex 64 (key_of seed params) → Judged (key_of seed params) entries message (signature_len params.ots (signing_type params.height)) fault
    → IsUnsignedFile b seed params file fault b
judged_by_key b seed params file entries message fault f id how =
    elim (denied_by file entries message (key_of seed params) (signature_len params.ots (signing_type params.height)) fault f id how) [
      | inl is ↦ subst (λ (e : SignFileFault). IsUnsignedFile b seed params file e b) (sym is) (inl refl)
      | inr denied ↦ subst (λ (e : SignFileFault). IsUnsignedFile b seed params file e b) (sym denied.1) (denied.2, refl)
    ]

pub judged : (b : Book) (seed : Seed) (params : Params) (file : List ℕ) (entries : List Signature) (message key : List ℕ) (count : ℕ) (fault : SignFileFault)
    → IsSignedBy file entries message → key ≡ key_of seed params → IsHex 64 key → count ≡ signature_len params.ots (signing_type params.height)
    → Judged key entries message count fault → IsUnsignedFile b seed params file fault b
judged b seed params file entries message key count fault f same id long how =
    judged_by_key b seed params file entries message fault f (subst (IsHex 64) same id)
    (subst (λ (k : List ℕ). Judged k entries message (signature_len params.ots (signing_type params.height)) fault) same
    (subst (λ (n : ℕ). Judged key entries message n fault) long how))

pub unsigned_file : (b : Book) (seed : Seed) (params : Params) (file : List ℕ) (entries : List Signature) (message : List ℕ) (fault : BookFault) (after : Book)
    → IsSignedBy file entries message → IsUnsigned b seed params message fault after → IsUnsignedFile b seed params file (of_book fault) after
unsigned_file b seed params file entries message books.LeavesSpent after f u = (entries, message, f, u)
unsigned_file b seed params file entries message books.UnknownKey after f u = (entries, message, f, u)
unsigned_file b seed params file entries message books.Damaged after f u = (entries, message, f, u)
unsigned_file b seed params file entries message books.OtherTree after f u = (entries, message, f, u)
unsigned_file b seed params file entries message books.Database after f u = (entries, message, f, u)
unsigned_file b seed params file entries message books.OutOfMemory after f u = inr (entries, message, f, u)

pub unwritten : (b : Book) (seed : Seed) (params : Params) (file : List ℕ) (entries : List Signature) (message signature : List ℕ) (after : Book)
    → IsSignedBy file entries message → Signs b seed params message signature after → IsUnsignedFile b seed params file OutOfMemory after
unwritten b seed params file entries message signature after f s = inr (entries, message, f, inr (s.registered, s.registers, inr (s.leaf, s.reserves)))

-- ---- the file that is answered

-- with so many bytes of a signature the file is within the limits
abbrev pub Fits : List ℕ → List Signature → List ℕ → ℕ → Type 0
Fits key entries message count =
    (length (others key entries) < most_signatures)
    × ((s : List ℕ) → length s ≡ count → length (parts_text (others key entries) key (encode_lower s) message) ≤ file_limit)

pub signs_file : (b : Book) (seed : Seed) (params : Params) (file : List ℕ) (entries : List Signature) (message id key signature out : List ℕ) (count : ℕ) (after : Book)
    → IsSignedBy file entries message → Signs b seed params message signature after → Verifies (public_of seed params) message signature
    → id ≡ key_of seed params → key ≡ key_of seed params → IsHex 64 key → AllByRecursion (λ b. b < 256) signature
    → count ≡ signature_len params.ots (signing_type params.height) → Fits id entries message count
    → out ≡ parts_text (others key entries) key (encode_lower signature) message → SignsFile b seed params file out after
signs_file b seed params file entries message id key signature out count after f s v first same hex bytes so fits is =
    let long = signature_is seed params message signature v in
    let here = subst (λ (k : List ℕ). Fits k entries message count) (first ∙ sym same) fits in
    let short = subst (λ (text : List ℕ). length text ≤ file_limit) (sym is) (here.1 signature (long ∙ sym so)) in
    let made = is_signed file entries message key signature out f hex bytes (digits_are params.ots params.height signature bytes long) here.0 is short in
    record {
      entries = entries;
      message = message;
      signature = signature;
      was = f;
      signs = s;
      is = subst (λ (k : List ℕ). IsSignedBy out (with_signature k signature entries) message) same made;
    }

pub if_ok : {T E : Type 0} (P Q : T → Type 0) (r : Result T E) → IfOk r P → ((x : T) → P x → Q x) → IfOk r Q
if_ok P Q (Ok x) p f = f x p
if_ok P Q (Err e) p f = tt
