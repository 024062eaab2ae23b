-- A file is one document of a kind at most, or has one fault of shape, and not both.
use Rattle.std.proofs.Common.{◌≡◌, ℕ, ◌<◌, List, length, codes, refl, sym, ap, ◌∙◌, subst, arith}
use Rattle.limits.specs.Limits.{file_limit}
use Rattle.canonical_json.specs.Json.{Json}
use Rattle.canonical_json.specs.Spelling.{spelling, IsProper, IsCanonical}
use Rattle.keys_roles.specs.Plain.{Signature}
use Rattle.document_parts.specs.Documents.{Body, root, timestamp, snapshot, targets, layout, link, Document}
use Rattle.document_parts.specs.Members.{Has, IsArray, IsText}
use Rattle.document_parts.specs.Parts.{IsEnvelope, IsEntry, NamesAreIds}
use Rattle.std.specs.List.{AllByRecursion}
use Rattle.metadata.specs.Shape.{IsBody, IsFile, IsSignedFile, IsReadAs, IsDocument, IsShapeFault, kind_name, tables}
use Rattle.document_parts.specs.declared.documents.Kind.{Kind}
use Rattle.document_parts.specs.declared.documents.Kind.TheVariants as kinds
use Rattle.document_parts.specs.declared.documents.ShapeFault.{ShapeFault}
use Rattle.document_parts.specs.declared.documents.ShapeFault.TheVariants.{TooLong, NotCanonical, WrongShape, WrongType, BadKeyId, OutOfMemory}
use Rattle.document_parts.proofs.Congruence.{same3}
use Rattle.document_parts.proofs.Once.{has-once, array-once, text-once}
use Rattle.document_parts.proofs.PartsOnce.{signature-once}
use Rattle.metadata.proofs.BodiesOnce.{root-once, timestamp-once, snapshot-once, targets-once}
use Rattle.metadata.proofs.SaidBy.{root_in, timestamp_in, snapshot_in, targets_in, layout_in, link_in}
use Rattle.layout_files.proofs.LayoutsOnce.{layout-once, link-once}

-- both are the kind's
both : {A : Type 0} (make : A → Body) (x y : A) (a b : Body) → a ≡ make x → b ≡ make y → x ≡ y → a ≡ b
both make x y a b p q e = p ∙ (ap make e ∙ sym q)

body-once : (kind : Kind) (entries : List Signature) (signed : Json) (a b : Body) → IsProper signed → IsBody kind entries signed a → IsBody kind entries signed b → a ≡ b
body-once kinds.Root entries signed a b p h k =
    let f = root_in entries signed a h in
    let g = root_in entries signed b k in
    both root f.0 g.0 a b f.2 g.2 (root-once signed f.0 g.0 p f.1 g.1)
body-once kinds.Timestamp entries signed a b p h k =
    let f = timestamp_in entries signed a h in
    let g = timestamp_in entries signed b k in
    both timestamp f.0 g.0 a b f.2 g.2 (timestamp-once signed f.0 g.0 p f.1 g.1)
body-once kinds.Snapshot entries signed a b p h k =
    let f = snapshot_in entries signed a h in
    let g = snapshot_in entries signed b k in
    both snapshot f.0 g.0 a b f.2 g.2 (snapshot-once signed f.0 g.0 p f.1 g.1)
body-once kinds.Targets entries signed a b p h k =
    let f = targets_in entries signed a h in
    let g = targets_in entries signed b k in
    both targets f.0 g.0 a b f.2 g.2 (targets-once signed f.0 g.0 p f.1 g.1)
body-once kinds.Layout entries signed a b p h k =
    let f = layout_in entries signed a h in
    let g = layout_in entries signed b k in
    both layout f.0 g.0 a b f.2 g.2 (layout-once signed f.0 g.0 p f.1 g.1)
body-once kinds.Link entries signed a b p h k =
    let f = link_in entries signed a h in
    let g = link_in entries signed b k in
    both link f.0 g.0 a b f.2 g.2 (link-once entries signed f.0 g.0 p f.1 g.1)

-- the parts of a file's envelope
pub record SameEnvelope (es fs : List Signature) (x y : Json) (t u : List ℕ) : Type 0 where
  pub entries : es ≡ fs
  pub part : x ≡ y
  pub type_name : t ≡ u
  pub proper : IsProper x

pub envelope-once : (v : Json) (es fs : List Signature) (x y : Json) (t u : List ℕ) → IsProper v → IsEnvelope v es x t → IsEnvelope v fs y u → SameEnvelope es fs x y t u
envelope-once v es fs x y t u p h k =
    let both = sym h.members ∙ k.members in
    let lists : h.list ≡ k.list = cc in
    let parts : x ≡ y = cc in
    let inside = (subst (λ (z : Json). IsProper z) h.members p).1 in
    let proper_list : IsProper h.list = inside.0 in
    let proper_part : IsProper x = inside.1.0 in
    record {
      entries = array-once IsEntry signature-once h.list es fs proper_list h.signatures.0 (subst (λ (z : Json). IsArray IsEntry z fs) (sym lists) k.signatures.0);
      part = parts;
      type_name = has-once (codes "_type") IsText text-once x t u proper_part h.typed (subst (λ (z : Json). Has z (codes "_type") (λ w. IsText w u)) (sym parts) k.typed);
      proper = proper_part;
    }

abbrev make : List Signature → List ℕ → Body → Document
make entries signed body = record { entries = entries; signed = signed; body = body }

-- a canonical text has one value
abbrev pub OneValue : Type 0
OneValue = (v w : Json) (bytes : List ℕ) → IsCanonical v bytes → IsCanonical w bytes → v ≡ w

module _ (one_value : OneValue) where
  -- a file has one value
  value-once : (bytes : List ℕ) (v w : Json) → IsFile bytes v → IsFile bytes w → v ≡ w
  value-once bytes v w h k = one_value v w bytes h.canonical k.canonical

  pub signed-once : (bytes : List ℕ) (es fs : List Signature) (x y : Json) (t u : List ℕ) → IsSignedFile bytes es x t → IsSignedFile bytes fs y u → SameEnvelope es fs x y t u
  signed-once bytes es fs x y t u h k =
      envelope-once h.value es fs x y t u h.file.canonical.allowed.proper h.envelope
      (subst (λ (z : Json). IsEnvelope z fs y u) (sym (value-once bytes h.value k.value h.file k.file)) k.envelope)

  -- a file is read as one document of a kind at most
  pub reading-once : (kind : Kind) (bytes : List ℕ) (d e : Document) → IsReadAs kind bytes d → IsReadAs kind bytes e → d ≡ e
  reading-once kind bytes d e h k =
      let same = signed-once bytes d.entries e.entries h.part k.part (kind_name kind) (kind_name kind) h.file k.file in
      let signed : d.signed ≡ e.signed = h.signed ∙ (ap spelling same.part ∙ sym k.signed) in
      let part : IsBody kind e.entries h.part e.body = subst (λ (z : Json). IsBody kind e.entries z e.body) (sym same.part) k.body in
      let other : IsBody kind d.entries h.part e.body = subst (λ (z : List Signature). IsBody kind z h.part e.body) (sym same.entries) part in
      same3 make same.entries signed (body-once kind d.entries h.part d.body e.body same.proper h.body other)

  pub document-once : (kind : Kind) (bytes : List ℕ) (d e : Document) → IsDocument kind bytes d → IsDocument kind bytes e → d ≡ e
  document-once kind bytes d e h k = reading-once kind bytes d e h.read k.read

  -- a file that is read has only the fault of a key's name
  not-too-long : (bytes : List ℕ) (es : List Signature) (x : Json) (t : List ℕ) → IsSignedFile bytes es x t → IsShapeFault kinds.Root bytes TooLong → ⊥
  not-too-long bytes es x t h f =
      let short = h.file.short in
      omega (arith, short, f)

  read-no-shape : (kind : Kind) (bytes : List ℕ) (d : Document) → IsReadAs kind bytes d → IsShapeFault kind bytes WrongShape → ⊥
  read-no-shape kind bytes d h f =
      let same = value-once bytes h.file.value f.0 h.file.file f.1 in
      f.2 d.entries h.part (subst (λ (z : Json). IsEnvelope z d.entries h.part (kind_name kind)) same h.file.envelope) d.body h.body

  read-no-type : (kind : Kind) (bytes : List ℕ) (d : Document) → IsReadAs kind bytes d → IsShapeFault kind bytes WrongType → ⊥
  read-no-type kind bytes d h f =
      f.4 (sym (signed-once bytes d.entries f.0 h.part f.1 (kind_name kind) f.2 h.file f.3).type_name)

  shape-no-type : (kind : Kind) (bytes : List ℕ) → IsShapeFault kind bytes WrongShape → IsShapeFault kind bytes WrongType → ⊥
  shape-no-type kind bytes f g =
      let file = g.3 in
      g.4 (f.3 g.0 g.1 g.2 (subst (λ (z : Json). IsEnvelope z g.0 g.1 g.2) (value-once bytes file.value f.0 file.file f.1) file.envelope))

  -- no document has a fault
  pub document-no-fault : (kind : Kind) (bytes : List ℕ) (d : Document) (f : ShapeFault) → IsDocument kind bytes d → IsShapeFault kind bytes f → ⊥
  document-no-fault kind bytes d TooLong h f = not-too-long bytes d.entries h.read.part (kind_name kind) h.read.file f
  document-no-fault kind bytes d NotCanonical h f = f.1 h.read.file.value h.read.file.file.canonical
  document-no-fault kind bytes d WrongShape h f = read-no-shape kind bytes d h.read f
  document-no-fault kind bytes d WrongType h f = read-no-type kind bytes d h.read f
  document-no-fault kind bytes d BadKeyId h f =
      let same = reading-once kind bytes d f.0 h.read f.1 in
      f.2 (subst (λ (z : Document). AllByRecursion NamesAreIds (tables z.body)) same h.ids)
  document-no-fault kind bytes d OutOfMemory h f = absurd f

  -- one fault
  long-short : (bytes : List ℕ) (v : Json) → file_limit < length bytes → IsFile bytes v → ⊥
  long-short bytes v h k =
      let short = k.short in
      omega (arith, short, h)

  pub fault-once : (kind : Kind) (bytes : List ℕ) (f g : ShapeFault) → IsShapeFault kind bytes f → IsShapeFault kind bytes g → f ≡ g
  fault-once kind bytes TooLong TooLong h k = refl
  fault-once kind bytes TooLong NotCanonical h k = absurd (omega (arith, h, k.0))
  fault-once kind bytes TooLong WrongShape h k = absurd (long-short bytes k.0 h k.1)
  fault-once kind bytes TooLong WrongType h k = absurd (long-short bytes k.3.value h k.3.file)
  fault-once kind bytes TooLong BadKeyId h k = absurd (long-short bytes k.1.file.value h k.1.file.file)
  fault-once kind bytes TooLong OutOfMemory h k = absurd k
  fault-once kind bytes NotCanonical TooLong h k = absurd (omega (arith, k, h.0))
  fault-once kind bytes NotCanonical NotCanonical h k = refl
  fault-once kind bytes NotCanonical WrongShape h k = absurd (h.1 k.0 k.1.canonical)
  fault-once kind bytes NotCanonical WrongType h k = absurd (h.1 k.3.value k.3.file.canonical)
  fault-once kind bytes NotCanonical BadKeyId h k = absurd (h.1 k.1.file.value k.1.file.file.canonical)
  fault-once kind bytes NotCanonical OutOfMemory h k = absurd k
  fault-once kind bytes WrongShape TooLong h k = absurd (long-short bytes h.0 k h.1)
  fault-once kind bytes WrongShape NotCanonical h k = absurd (k.1 h.0 h.1.canonical)
  fault-once kind bytes WrongShape WrongShape h k = refl
  fault-once kind bytes WrongShape WrongType h k = absurd (shape-no-type kind bytes h k)
  fault-once kind bytes WrongShape BadKeyId h k = absurd (read-no-shape kind bytes k.0 k.1 h)
  fault-once kind bytes WrongShape OutOfMemory h k = absurd k
  fault-once kind bytes WrongType TooLong h k = absurd (long-short bytes h.3.value k h.3.file)
  fault-once kind bytes WrongType NotCanonical h k = absurd (k.1 h.3.value h.3.file.canonical)
  fault-once kind bytes WrongType WrongShape h k = absurd (shape-no-type kind bytes k h)
  fault-once kind bytes WrongType WrongType h k = refl
  fault-once kind bytes WrongType BadKeyId h k = absurd (read-no-type kind bytes k.0 k.1 h)
  fault-once kind bytes WrongType OutOfMemory h k = absurd k
  fault-once kind bytes BadKeyId TooLong h k = absurd (long-short bytes h.1.file.value k h.1.file.file)
  fault-once kind bytes BadKeyId NotCanonical h k = absurd (k.1 h.1.file.value h.1.file.file.canonical)
  fault-once kind bytes BadKeyId WrongShape h k = absurd (read-no-shape kind bytes h.0 h.1 k)
  fault-once kind bytes BadKeyId WrongType h k = absurd (read-no-type kind bytes h.0 h.1 k)
  fault-once kind bytes BadKeyId BadKeyId h k = refl
  fault-once kind bytes BadKeyId OutOfMemory h k = absurd k
  fault-once kind bytes OutOfMemory g h k = absurd h
