-- Signatures that another tool made: which bytes are a public key, and the file that such a signature is attached to (TUF 1.0, section 4.2).
use Rattle.std.specs.Prelude.{◌≡◌, ◌≢◌, ◌⊎◌, ◌<◌, ◌≤◌, ℕ, List, length}
use Rattle.limits.specs.Limits.{file_limit, most_signatures}
use Rattle.canonical_json.specs.Json.{Json}
use Rattle.lms.specs.declared.LmsType.{LmsType}
use Rattle.lms.specs.declared.OtsType.{OtsType}
use Rattle.lms.specs.Text.{HasTypes}
use Rattle.lms.specs.Hss.{AreLevels}
use Rattle.keys_roles.specs.Plain.{Key, lms, hss, Signature}
use Rattle.keys_roles.specs.Keys.{VerifiesUnder, id_of, key_object, public_bytes, top_key}
use Rattle.denials.specs.declared.denial.Denial.{Denial}
use Rattle.denials.specs.declared.denial.Denial.TheVariants as denials
use Rattle.document_parts.specs.Parts.{IsKey}
use Rattle.metadata.specs.Shape.{IsEnvelopeFault, IsSignedBy, IsSignedFile}
use Rattle.document_parts.specs.declared.documents.ShapeFault.TheVariants.{TooLong, NotCanonical, WrongShape}
use Rattle.signer.specs.Files.{HasNoRoom, file_text, with_signature}
use Rattle.signer.specs.declared.attaching.PublicFault.{PublicFault}
use Rattle.signer.specs.declared.attaching.PublicFault.TheVariants.{Length, Levels, Types}
use Rattle.signer.specs.declared.attaching.AttachFault.{AttachFault}
use Rattle.signer.specs.declared.attaching.AttachFault.TheVariants.{Denied, Invalid, OutOfMemory}

-- ---- public keys as bytes

-- a key of these bytes, which the readers of key objects take: they ask for the number of bytes alone
abbrev pub IsKeyOf : List ℕ → Key → Type 0
IsKeyOf bytes key = IsKey (key_object key) key × (public_bytes key ≡ bytes)

-- some signature has as many levels: they are 1 to 8 (RFC 8554, section 6.1)
abbrev pub HasLevels : Key → Type 0
HasLevels (lms public) = Unit {0}
HasLevels (hss public) = (signature : List ℕ) × (signed_keys : ℕ) × (top rest : List ℕ) × AreLevels public signature signed_keys top rest

-- the types of the top key are known
abbrev pub HasKnownTypes : List ℕ → Type 0
HasKnownTypes top = (lms : LmsType) × (ots : OtsType) × HasTypes top lms ots

-- a key of these bytes under which a signature may verify
abbrev pub IsPublicKey : List ℕ → Key → Type 0
IsPublicKey bytes key = IsKeyOf bytes key × HasLevels key × HasKnownTypes (top_key key)

-- The first of these that the bytes are not: so many that they are a key at all, levels, types.
abbrev pub IsNoPublicKey : List ℕ → PublicFault → Type 0
IsNoPublicKey bytes Length = (key : Key) → IsKeyOf bytes key → ⊥
IsNoPublicKey bytes Levels = (key : Key) × IsKeyOf bytes key × (HasLevels key → ⊥)
IsNoPublicKey bytes Types = (key : Key) × IsKeyOf bytes key × HasLevels key × (HasKnownTypes (top_key key) → ⊥)

-- ---- a file with a signature that is given

-- The file has these entries, the key's own put last and an older one of it taken out, over the same signed part. It is canonical, and
-- within the limits of a file. The signature is one of the signed part under the key.
pub record Attaches (file : List ℕ) (key : Key) (signature out : List ℕ) : Type 0 where
  pub entries : List Signature
  pub message : List ℕ
  pub was : IsSignedBy file entries message
  pub verifies : VerifiesUnder key message signature
  pub is : IsSignedBy out (with_signature (id_of key) signature entries) message

-- the envelope is in order, over this part, and the signature is one of it
pub record IsSoundOver (file : List ℕ) (key : Key) (signature : List ℕ) (entries : List Signature) (part : Json) : Type 0 where
  pub message : List ℕ
  pub type_name : List ℕ
  pub was : IsSignedFile file entries part type_name
  pub signed : IsSignedBy file entries message
  pub verifies : VerifiesUnder key message signature

-- The first check that fails: those of the envelope, then the signature, then the number of entries with the new one, then the length
-- with it.
abbrev pub IsUnattached : List ℕ → Key → List ℕ → AttachFault → Type 0
IsUnattached file key signature Invalid =
    (entries : List Signature) × (message : List ℕ) × IsSignedBy file entries message × (VerifiesUnder key message signature → ⊥)
IsUnattached file key signature (Denied denials.NotCanonical) = IsEnvelopeFault file NotCanonical
IsUnattached file key signature (Denied denials.WrongShape) =
    IsEnvelopeFault file WrongShape
    ⊎ ((entries : List Signature) × (part : Json) × IsSoundOver file key signature entries part × HasNoRoom (id_of key) entries)
IsUnattached file key signature (Denied denials.TooLong) =
    IsEnvelopeFault file TooLong
    ⊎ ((entries : List Signature) × (part : Json) × IsSoundOver file key signature entries part
    × (HasNoRoom (id_of key) entries → ⊥) × (file_limit < length (file_text (with_signature (id_of key) signature entries) part)))
IsUnattached file key signature (Denied denial) = ⊥
IsUnattached file key signature OutOfMemory = Unit {0}
