-- The line that reads a document is definite.
use Rattle.std.proofs.Common.{◌≡◌, List, Ok, Err, sym, ap, ◌∙◌, subst}
use Rattle.keys_roles.specs.Plain.{Signature}
use Rattle.document_parts.specs.Documents.{Document}
use Rattle.metadata.specs.Shape.{IsDocument, IsShapeFault}
use Rattle.metadata.specs.File.{Bytes, File, Form, IsFileOf, document_of, fault_number, root_form, timestamp_form, snapshot_form, targets_form, layout_form, link_form}
use Rattle.denials.specs.Orders.{Denied, Plain}
use Rattle.metadata.specs.Shaped.{reads, faulty, shaped}
use Rattle.document_parts.specs.declared.documents.Kind.{Kind}
use Rattle.document_parts.specs.declared.documents.ShapeFault.{ShapeFault}
use Rattle.denials.proofs.DefiniteOrders.{Definite}

-- a file is one document of a kind at most, or has one fault of shape, and not both
pub record Shapes : Type 0 where
  pub document : (kind : Kind) (bytes : Bytes) (d e : Document) → IsDocument kind bytes d → IsDocument kind bytes e → d ≡ e
  pub none : (kind : Kind) (bytes : Bytes) (d : Document) (f : ShapeFault) → IsDocument kind bytes d → IsShapeFault kind bytes f → ⊥
  pub one : (kind : Kind) (bytes : Bytes) (f g : ShapeFault) → IsShapeFault kind bytes f → IsShapeFault kind bytes g → f ≡ g

-- a form says which body its document has
abbrev pub Tells : {A : Type 0} → Form A → Type 0
Tells {A} form = (x y : A) → form.make x ≡ form.make y → x ≡ y

pub root-tells : Tells root_form
root-tells x y e = cc

pub timestamp-tells : Tells timestamp_form
timestamp-tells x y e = cc

pub snapshot-tells : Tells snapshot_form
snapshot-tells x y e = cc

pub targets-tells : Tells targets_form
targets-tells x y e = cc

pub layout-tells : Tells layout_form
layout-tells x y e = cc

pub link-tells : Tells link_form
link-tells x y e = cc

abbrev make : {A : Type 0} → Bytes → Bytes → List Signature → A → File A
make bytes signed entries body = record { bytes = bytes; signed = signed; entries = entries; body = body }

same_file : {A : Type 0} {b c s t : Bytes} {es fs : List Signature} {x y : A} → b ≡ c → s ≡ t → es ≡ fs → x ≡ y → make b s es x ≡ make c t fs y
same_file {A} {b} {c} {s} {t} {es} {fs} {x} {y} p q r u =
    ap (λ z. make z s es x) p ∙ (ap (λ z. make c z es x) q ∙ (ap (λ z. make c t z x) r ∙ ap (λ z. make c t fs z) u))

module _ (law : Shapes) where
  -- a file is one document of its form at most
  pub file-once : {A : Type 0} (form : Form A) → Tells form → (d e : File A) → IsFileOf form d → IsFileOf form e → d.bytes ≡ e.bytes → d ≡ e
  file-once {A} form tells d e h k p =
      let same : document_of form d ≡ document_of form e =
      law.document form.kind d.bytes (document_of form d) (document_of form e) h (subst (λ (b : Bytes). IsDocument form.kind b (document_of form e)) (sym p) k) in
      same_file p (ap (λ (x : Document). x.signed) same) (ap (λ (x : Document). x.entries) same) (tells d.body e.body (ap (λ (x : Document). x.body) same))

  not_both : {A : Type 0} (form : Form A) (b : Bytes) (d : File A) (f : ShapeFault) → IsFileOf form d → d.bytes ≡ b → IsShapeFault form.kind b f → ⊥
  not_both form b d f h p k = law.none form.kind b (document_of form d) f (subst (λ (z : Bytes). IsDocument form.kind z (document_of form d)) p h) k

  pub shaped-definite : {A : Type 0} (form : Form A) → Tells form → (b : Bytes) → Definite (shaped form b)
  shaped-definite form tells b _ _ (reads {d = d} h p) (reads {d = e} k q) = ap (λ x. Ok x) (file-once form tells d e h k (p ∙ sym q))
  shaped-definite form tells b _ _ (reads {d = d} h p) (faulty f k) = absurd (not_both form b d f h p k)
  shaped-definite form tells b _ _ (faulty f k) (reads {d = d} h p) = absurd (not_both form b d f h p k)
  shaped-definite form tells b _ _ (faulty f h) (faulty g k) = ap (λ x. Err (Denied (Plain (fault_number x)))) (law.one form.kind b f g h k)
