-- The same of a value, whatever file spells it.
use Rattle.std.specs.Prelude.{◌≡◌, ◌⊎◌, ℕ, List}
use Rattle.std.specs.List.{AllByRecursion}
use Rattle.canonical_json.specs.Json.{Json}
use Rattle.keys_roles.specs.Plain.{Signature}
use Rattle.document_parts.specs.Documents.{Body}
use Rattle.document_parts.specs.Parts.{IsEnvelope, NamesAreIds}
use Rattle.metadata.specs.Shape.{kind_name, tables, IsBody, IsFile, IsShapeFault}
use Rattle.document_parts.specs.declared.documents.Kind.{Kind}
use Rattle.document_parts.specs.declared.documents.ShapeFault.{ShapeFault}
use Rattle.document_parts.specs.declared.documents.ShapeFault.TheVariants.{OutOfMemory}

-- the value is a document of the kind with these signatures, which says this
pub record IsSignedAs (kind : Kind) (v : Json) (entries : List Signature) (body : Body) : Type 0 where
  pub part : Json
  pub envelope : IsEnvelope v entries part (kind_name kind)
  pub says : IsBody kind entries part body
  pub ids : AllByRecursion NamesAreIds (tables body)

-- memory was refused, or each file that spells the value has this fault
abbrev pub IsFaultOf : Kind → Json → ShapeFault → Type 0
IsFaultOf kind v e = (e ≡ OutOfMemory) ⊎ ((bytes : List ℕ) → IsFile bytes v → IsShapeFault kind bytes e)
