-- Two files with one signed part as one (TUF 1.0, section 4.2: signatures of one document may come from several places).
use Rattle.std.specs.Prelude.{◌≢◌, ◌<◌, ◌≤◌, ◌++◌, ℕ, List, Bool, length, filter, not, bytes_eq}
use Rattle.limits.specs.Limits.{file_limit, most_signatures}
use Rattle.std.specs.List.{list_any}
use Rattle.canonical_json.specs.Json.{Json}
use Rattle.canonical_json.specs.Spelling.{spelling}
use Rattle.keys_roles.specs.Plain.{Signature}
use Rattle.denials.specs.declared.denial.Denial.{Denial}
use Rattle.denials.specs.declared.denial.Denial.TheVariants as denials
use Rattle.metadata.specs.Shape.{IsEnvelopeFault, IsSignedBy, IsSignedFile}
use Rattle.document_parts.specs.declared.documents.ShapeFault.TheVariants.{TooLong, NotCanonical, WrongShape}
use Rattle.signer.specs.Files.{file_text}
use Rattle.signer.specs.declared.faults.JoinFault.{JoinFault}
use Rattle.signer.specs.declared.faults.JoinFault.TheVariants.{First, Second, Different, Denied, OutOfMemory}

-- whether an entry is of this key
abbrev pub has_entry : List Signature → List ℕ → Bool
has_entry entries key = list_any (λ e. bytes_eq e.keyid key) entries

-- the further entries whose keys have none among the entries
abbrev pub missing : List Signature → List Signature → List Signature
missing entries further = filter (λ e. not (has_entry entries e.keyid)) further

-- the entries, and after them those that they lack
abbrev pub joined : List Signature → List Signature → List Signature
joined entries further = entries ++ missing entries further

-- The result has the entries of the first file, and after them those of the other whose keys have none there, over the part that both
-- have. It is canonical, and within the limits of a file.
pub record JoinsFiles (file other out : List ℕ) : Type 0 where
  pub entries : List Signature
  pub further : List Signature
  pub message : List ℕ
  pub first : IsSignedBy file entries message
  pub second : IsSignedBy other further message
  pub is : IsSignedBy out (joined entries further) message

-- ---- why two files are not joined

-- the first check of the envelope that fails, as a denial
abbrev pub IsEnvelopeDenial : List ℕ → Denial → Type 0
IsEnvelopeDenial file denials.TooLong = IsEnvelopeFault file TooLong
IsEnvelopeDenial file denials.NotCanonical = IsEnvelopeFault file NotCanonical
IsEnvelopeDenial file denials.WrongShape = IsEnvelopeFault file WrongShape
IsEnvelopeDenial file denial = ⊥

-- the envelopes of both are in order, over this part
pub record HaveOnePart (file other : List ℕ) (entries further : List Signature) (part : Json) : Type 0 where
  pub type_name : List ℕ
  pub first : IsSignedFile file entries part type_name
  pub second : IsSignedBy other further (spelling part)

-- The first check that fails: those of the first envelope, of the other, one signed part, the number of entries, the length.
abbrev pub IsUnjoined : List ℕ → List ℕ → JoinFault → Type 0
IsUnjoined file other (First denial) = IsEnvelopeDenial file denial
IsUnjoined file other (Second denial) = ((entries : List Signature) × (message : List ℕ) × IsSignedBy file entries message) × IsEnvelopeDenial other denial
IsUnjoined file other Different =
    (entries further : List Signature) × (m n : List ℕ) × IsSignedBy file entries m × IsSignedBy other further n × (m ≢ n)
IsUnjoined file other (Denied denials.WrongShape) =
    (entries further : List Signature) × (part : Json) × HaveOnePart file other entries further part × (most_signatures < length (joined entries further))
IsUnjoined file other (Denied denials.TooLong) =
    (entries further : List Signature) × (part : Json) × HaveOnePart file other entries further part
    × (length (joined entries further) ≤ most_signatures) × (file_limit < length (file_text (joined entries further) part))
IsUnjoined file other (Denied denial) = ⊥
IsUnjoined file other OutOfMemory = Unit {0}
