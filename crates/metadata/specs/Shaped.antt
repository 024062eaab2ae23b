-- The shape of a file as a line of an order of checks.
use Rattle.std.specs.Prelude.{◌≡◌, Ok, Err}
use Rattle.denials.specs.Orders.{Denied, Judged, Order, Plain}
use Rattle.metadata.specs.File.{Bytes, File, Form, IsFileOf, fault_number}
use Rattle.metadata.specs.Shape.{IsShapeFault}
use Rattle.document_parts.specs.declared.documents.ShapeFault.{ShapeFault}

pub data Shaped {A : Type 0} (form : Form A) (b : Bytes) : Judged (File A) → Type 0 where
  reads : {d : File A} → IsFileOf form d → d.bytes ≡ b → Shaped form b (Ok d)
  faulty : (fault : ShapeFault) → IsShapeFault form.kind b fault → Shaped form b (Err (Denied (Plain (fault_number fault))))

-- the document that the bytes are, or the number of the check of shape that fails
abbrev pub shaped : {A : Type 0} → Form A → Bytes → Order (File A)
shaped form b = Shaped form b
