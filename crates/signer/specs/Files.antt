-- Files that get a signature (TUF 1.0, section 4.2).
use Rattle.std.specs.Prelude.{◌≡◌, ◌⊎◌, ◌<◌, ◌≤◌, ℕ, List, [], ◌∷◌, ◌++◌, length, codes, filter, not, bytes_eq}
use Rattle.limits.specs.Limits.{file_limit, most_signatures}
use Rattle.hex.specs.Hex.{encode_lower}
use Rattle.canonical_json.specs.Json.{Json, array, object, Items, no_items, item, no_members, member}
use Rattle.canonical_json.specs.Spelling.{spelling}
use Rattle.lms.specs.declared.Params.{Params}
use Rattle.lms.specs.declared.Seed.{Seed}
use Rattle.lms.specs.Parameters.{signature_len, signing_type}
use Rattle.keys_roles.specs.Plain.{Signature}
use Rattle.denials.specs.declared.denial.Denial.{Denial}
use Rattle.denials.specs.declared.denial.Denial.TheVariants as denials
use Rattle.document_parts.specs.Parts.{AreBytes, signature_object}
use Rattle.metadata.specs.Shape.{IsEnvelopeFault, IsSignedBy, IsSignedFile}
use Rattle.document_parts.specs.declared.documents.ShapeFault.TheVariants.{TooLong, NotCanonical, WrongShape}
use Rattle.leaf_plans.specs.Book.{Book, key_of}
use Rattle.signer.specs.Messages.{IsBegun, IsUnsigned, Signs}
use Rattle.signer.specs.declared.faults.SignFileFault.{SignFileFault}
use Rattle.signer.specs.declared.faults.SignFileFault.TheVariants.{Denied, Book as OfBook, OutOfMemory}

-- the entries of other keys, in their order
abbrev pub others : List ℕ → List Signature → List Signature
others key entries = filter (λ e. not (bytes_eq e.keyid key)) entries

-- the same, and after them an entry of the key, in the place of an older one
abbrev pub with_signature : List ℕ → List ℕ → List Signature → List Signature
with_signature key signature entries = others key entries ++ record { keyid = key; sig = encode_lower signature } ∷ []

-- The file has these entries, the key's own put last and an older one of it taken out, over the same signed part. It is canonical, and
-- within the limits of a file. The signature is one of the signed part by a leaf that the book keeps for it.
pub record SignsFile (before : Book) (seed : Seed) (params : Params) (file signed_file : List ℕ) (after : Book) : Type 0 where
  pub entries : List Signature
  pub message : List ℕ
  pub signature : List ℕ
  pub was : IsSignedBy file entries message
  pub signs : Signs before seed params message signature after
  pub is : IsSignedBy signed_file (with_signature (key_of seed params) signature entries) message

-- ---- why a file is not signed

abbrev pub items_of : List Signature → Items
items_of [] = no_items
items_of (e ∷ es) = item (signature_object e.keyid e.sig) (items_of es)

-- the text of the file with these entries over this part
abbrev pub file_text : List Signature → Json → List ℕ
file_text entries part = spelling (object (member (codes "signatures") (array (items_of entries)) (member (codes "signed") part no_members)))

-- with an entry more the file would have too many
abbrev pub HasNoRoom : List ℕ → List Signature → Type 0
HasNoRoom key entries = most_signatures ≤ length (others key entries)

-- with a signature of so many bytes the file would be too long
abbrev pub WouldBeLong : List ℕ → ℕ → List Signature → Json → Type 0
WouldBeLong key count entries part = (signature : List ℕ) → AreBytes count signature → file_limit < length (file_text (with_signature key signature entries) part)

-- The first check that fails: those of the envelope, then the number of entries with a new one of this key, then the length with it, which
-- has so many bytes.
abbrev pub IsDenialOf : List ℕ → ℕ → List ℕ → Denial → Type 0
IsDenialOf key count file denials.TooLong =
    IsEnvelopeFault file TooLong
    ⊎ ((entries : List Signature) × (part : Json) × (type_name : List ℕ) × IsSignedFile file entries part type_name
    × (length (others key entries) < most_signatures) × WouldBeLong key count entries part)
IsDenialOf key count file denials.NotCanonical = IsEnvelopeFault file NotCanonical
IsDenialOf key count file denials.WrongShape =
    IsEnvelopeFault file WrongShape
    ⊎ ((entries : List Signature) × (part : Json) × (type_name : List ℕ) × IsSignedFile file entries part type_name × HasNoRoom key entries)
IsDenialOf key count file denial = ⊥

abbrev pub IsSigningDenial : Seed → Params → List ℕ → Denial → Type 0
IsSigningDenial seed params file denial = IsDenialOf (key_of seed params) (signature_len params.ots (signing_type params.height)) file denial

-- as far as the signing of a file may have come: nothing was done, or that of its signed part has begun
abbrev pub IsBegunFile : Book → Seed → Params → List ℕ → Book → Type 0
IsBegunFile before seed params file after =
    (after ≡ before) ⊎ ((entries : List Signature) × (message : List ℕ) × IsSignedBy file entries message × IsBegun before seed params message after)

-- Why a file is not signed, and what the book is then. A file that is denied costs no leaf.
abbrev pub IsUnsignedFile : Book → Seed → Params → List ℕ → SignFileFault → Book → Type 0
IsUnsignedFile before seed params file (Denied denial) after = IsSigningDenial seed params file denial × (after ≡ before)
IsUnsignedFile before seed params file (OfBook fault) after =
    (entries : List Signature) × (message : List ℕ) × IsSignedBy file entries message × IsUnsigned before seed params message fault after
IsUnsignedFile before seed params file OutOfMemory after = IsBegunFile before seed params file after
