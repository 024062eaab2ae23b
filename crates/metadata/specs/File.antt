-- A document beside the bytes of its file, and which file is such a one.
use Rattle.std.specs.Prelude.{◌≡◌, ℕ, Bool, List, bytes_eq}
use Rattle.std.specs.List.{list_any}
use Rattle.keys_roles.specs.Plain.{Signature}
pub use Rattle.keys_roles.specs.Plain.{look_up}
pub use Rattle.hex.specs.Hex.{encode_lower}
use Rattle.document_parts.specs.Documents.{Root, Timestamp, Snapshot, Targets, Layout, Body, root, timestamp, snapshot, targets, layout, link, Document}
use Rattle.document_parts.specs.Links.{Link}
use Rattle.metadata.specs.Shape.{IsDocument, IsShapeFault}
use Rattle.denials.specs.Numbers as no
use Rattle.document_parts.specs.declared.documents.Kind.{Kind}
use Rattle.document_parts.specs.declared.documents.Kind.TheVariants as kinds
use Rattle.document_parts.specs.declared.documents.ShapeFault.{ShapeFault}
use Rattle.document_parts.specs.declared.documents.ShapeFault.TheVariants.{TooLong, NotCanonical, WrongShape, WrongType, BadKeyId, OutOfMemory}

abbrev pub Bytes : Type 0
Bytes = List ℕ

abbrev pub Name : Type 0
Name = List ℕ

abbrev pub Names : Type 0
Names = List Name

abbrev pub has_name : Names → Name → Bool
has_name names name = list_any (λ n. bytes_eq n name) names

-- a document of one kind with the bytes of its file, the bytes that were signed, and the signatures over these
pub record File (A : Type 0) : Type 0 where
  pub bytes : Bytes
  pub signed : Bytes
  pub entries : List Signature
  pub body : A

-- a kind of document with what it makes of a body
pub record Form (A : Type 0) : Type 0 where
  pub kind : Kind
  pub make : A → Body

abbrev pub root_form : Form Root
root_form = record { kind = kinds.Root; make = root }

abbrev pub timestamp_form : Form Timestamp
timestamp_form = record { kind = kinds.Timestamp; make = timestamp }

abbrev pub snapshot_form : Form Snapshot
snapshot_form = record { kind = kinds.Snapshot; make = snapshot }

abbrev pub targets_form : Form Targets
targets_form = record { kind = kinds.Targets; make = targets }

abbrev pub layout_form : Form Layout
layout_form = record { kind = kinds.Layout; make = layout }

abbrev pub link_form : Form Link
link_form = record { kind = kinds.Link; make = link }

abbrev pub document_of : {A : Type 0} → Form A → File A → Document
document_of form f = record { entries = f.entries; signed = f.signed; body = form.make f.body }

-- the file is this document of its kind
abbrev pub IsFileOf : {A : Type 0} → Form A → File A → Type 0
IsFileOf form f = IsDocument form.kind f.bytes (document_of form f)

-- the number of a fault of shape; no bytes have the last one
abbrev pub fault_number : ShapeFault → ℕ
fault_number TooLong = no.too_long
fault_number NotCanonical = no.not_canonical
fault_number WrongShape = no.wrong_shape
fault_number WrongType = no.wrong_type
fault_number BadKeyId = no.bad_key_id
fault_number OutOfMemory = 0

-- the file fails the check of shape with this number first
abbrev pub IsDeniedShape : Kind → Bytes → ℕ → Type 0
IsDeniedShape kind bytes n = (e : ShapeFault) × IsShapeFault kind bytes e × (fault_number e ≡ n)
