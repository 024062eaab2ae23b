-- Which document a file is, or the first check of its shape that fails.
use Rattle.std.specs.Prelude.{◌≡◌, ◌≢◌, ℕ, ◌<◌, ◌≤◌, List, [], ◌∷◌, ◌++◌, length, codes, Option, Some, None, flat_map}
use Rattle.limits.specs.Limits.{file_limit}
use Rattle.std.specs.List.{AllByRecursion}
use Rattle.canonical_json.specs.Json.{Json}
use Rattle.canonical_json.specs.Spelling.{spelling, IsCanonical}
use Rattle.keys_roles.specs.Plain.{Table, Signature}
use Rattle.document_parts.specs.Documents.{Body, root, timestamp, snapshot, targets, layout, link, Document, Delegations, LayoutReference}
use Rattle.document_parts.specs.Parts.{IsEnvelope, NamesAreIds}
use Rattle.document_parts.specs.Bodies.{IsRoot, IsTimestamp, IsSnapshot, IsTargets, IsLayout, IsLink}
use Rattle.document_parts.specs.declared.documents.Kind.{Kind}
use Rattle.document_parts.specs.declared.documents.Kind.TheVariants as kinds
use Rattle.document_parts.specs.declared.documents.ShapeFault.{ShapeFault}
use Rattle.document_parts.specs.declared.documents.ShapeFault.TheVariants.{TooLong, NotCanonical, WrongShape, WrongType, BadKeyId, OutOfMemory}

abbrev pub kind_name : Kind → List ℕ
kind_name kinds.Root = codes "root"
kind_name kinds.Timestamp = codes "timestamp"
kind_name kinds.Snapshot = codes "snapshot"
kind_name kinds.Targets = codes "targets"
kind_name kinds.Layout = codes "layout"
kind_name kinds.Link = codes "link"

-- the signed part has the members of its kind, and they say this. A link asks something of the signatures too: it has just one
abbrev pub IsBody : Kind → List Signature → Json → Body → Type 0
IsBody kinds.Root entries signed (root r) = IsRoot signed r
IsBody kinds.Timestamp entries signed (timestamp t) = IsTimestamp signed t
IsBody kinds.Snapshot entries signed (snapshot s) = IsSnapshot signed s
IsBody kinds.Targets entries signed (targets t) = IsTargets signed t
IsBody kinds.Layout entries signed (layout l) = IsLayout signed l
IsBody kinds.Link entries signed (link l) = IsLink entries signed l
IsBody kind entries signed body = ⊥

abbrev pub reference_tables : Option LayoutReference → List Table
reference_tables None = []
reference_tables (Some l) = l.keys ∷ []

abbrev pub delegation_tables : Option Delegations → List Table
delegation_tables None = []
delegation_tables (Some d) = d.keys ∷ []

-- the key tables of a document
abbrev pub tables : Body → List Table
tables (root r) = r.keys ∷ []
tables (timestamp t) = []
tables (snapshot s) = []
tables (targets t) = delegation_tables t.delegations ++ flat_map (λ l. reference_tables l.layout) t.targets
tables (layout l) = l.keys ∷ []
tables (link l) = []

-- a file that is short enough and canonical, seen as its value
pub record IsFile (bytes : List ℕ) (v : Json) : Type 0 where
  pub short : length bytes ≤ file_limit
  pub canonical : IsCanonical v bytes

-- a file whose envelope is in order, with the type that it names
pub record IsSignedFile (bytes : List ℕ) (entries : List Signature) (signed : Json) (type_name : List ℕ) : Type 0 where
  pub value : Json
  pub file : IsFile bytes value
  pub envelope : IsEnvelope value entries signed type_name

-- the same, with the bytes that the signatures are over
abbrev pub IsSignedBy : List ℕ → List Signature → List ℕ → Type 0
IsSignedBy bytes entries signed = (part : Json) × (type_name : List ℕ) × IsSignedFile bytes entries part type_name × (signed ≡ spelling part)

-- the file is this document, whatever the names in its key tables
pub record IsReadAs (kind : Kind) (bytes : List ℕ) (d : Document) : Type 0 where
  pub part : Json
  pub file : IsSignedFile bytes d.entries part (kind_name kind)
  pub signed : d.signed ≡ spelling part
  pub body : IsBody kind d.entries part d.body

-- the file is this document
pub record IsDocument (kind : Kind) (bytes : List ℕ) (d : Document) : Type 0 where
  pub read : IsReadAs kind bytes d
  pub ids : AllByRecursion NamesAreIds (tables d.body)

-- the first check that fails, as far as the envelope
abbrev pub IsEnvelopeFault : List ℕ → ShapeFault → Type 0
IsEnvelopeFault bytes TooLong = file_limit < length bytes
IsEnvelopeFault bytes NotCanonical = (length bytes ≤ file_limit) × ((v : Json) → IsCanonical v bytes → ⊥)
IsEnvelopeFault bytes WrongShape = (v : Json) × IsFile bytes v
    × ((entries : List Signature) (signed : Json) (type_name : List ℕ) → IsEnvelope v entries signed type_name → ⊥)
IsEnvelopeFault bytes WrongType = ⊥
IsEnvelopeFault bytes BadKeyId = ⊥
IsEnvelopeFault bytes OutOfMemory = ⊥

-- the first check that fails
abbrev pub IsShapeFault : Kind → List ℕ → ShapeFault → Type 0
IsShapeFault kind bytes TooLong = file_limit < length bytes
IsShapeFault kind bytes NotCanonical = (length bytes ≤ file_limit) × ((v : Json) → IsCanonical v bytes → ⊥)
IsShapeFault kind bytes WrongShape = (v : Json) × IsFile bytes v
    × ((entries : List Signature) (signed : Json) → IsEnvelope v entries signed (kind_name kind) → (body : Body) → IsBody kind entries signed body → ⊥)
    × ((entries : List Signature) (signed : Json) (type_name : List ℕ) → IsEnvelope v entries signed type_name → type_name ≡ kind_name kind)
IsShapeFault kind bytes WrongType = (entries : List Signature) × (signed : Json) × (type_name : List ℕ)
    × IsSignedFile bytes entries signed type_name × (type_name ≢ kind_name kind)
IsShapeFault kind bytes BadKeyId = (d : Document) × IsReadAs kind bytes d × (AllByRecursion NamesAreIds (tables d.body) → ⊥)
IsShapeFault kind bytes OutOfMemory = ⊥
