-- What the parts of a value say of the files that spell it.
use Rattle.std.proofs.Common.{◌≡◌, ◌≢◌, ℕ, List, codes, refl, sym, subst, inl, inr, ◌∙◌}
use Rattle.std.specs.List.{AllByRecursion}
use Rattle.canonical_json.specs.Json.{Json, HasMember}
use Rattle.canonical_json.specs.Spelling.{spelling, IsProper}
use Rattle.keys_roles.specs.Plain.{Signature}
use Rattle.document_parts.specs.Documents.{Body, root, targets, layout, Timestamp, Snapshot}
use Rattle.document_parts.specs.Links.{Link}
use Rattle.metadata.specs.steps.Entries.{AreNamed as AreTargetsNamed}
use Rattle.document_parts.specs.steps.Faults.{IsIll, IsFaulty}
use Rattle.document_parts.specs.Parts.{IsEnvelope, NamesAreIds}
use Rattle.document_parts.specs.Bodies.{IsRoot, IsTimestamp, IsSnapshot, IsTargets, IsLayout, IsLink}
use Rattle.metadata.specs.Shape.{kind_name, tables, IsBody, IsShapeFault}
use Rattle.metadata.specs.steps.Reads.{IsSignedAs, IsFaultOf}
use Rattle.document_parts.specs.declared.documents.Kind.{Kind}
use Rattle.document_parts.specs.declared.documents.Kind.TheVariants as kinds
use Rattle.document_parts.specs.declared.documents.ShapeFault.{ShapeFault}
use Rattle.document_parts.specs.declared.documents.ShapeFault.TheVariants.{WrongShape, WrongType}
use Rattle.document_parts.proofs.Ill.{ill_again}
use Rattle.metadata.proofs.SaidBy.{root_in, timestamp_in, snapshot_in, targets_in, layout_in, link_in}
use Rattle.metadata.proofs.OneDocument.{envelope-once}

abbrev AreNamed : Body → Type 0
AreNamed b = AllByRecursion NamesAreIds (tables b)

-- ---- bodies by their kinds

pub root_faulty : (es : List Signature) (v : Json) (e : ShapeFault) → IsFaulty (IsRoot v) (λ r. NamesAreIds r.keys) e → IsFaulty (IsBody kinds.Root es v) AreNamed e
root_faulty es v e (inl h) = inl (ill_again e h (λ b. let f = root_in es v b.0 b.1 in (f.0, f.1)))
root_faulty es v e (inr h) = inr (h.0, (root h.1.0, h.1.1, λ all. h.1.2 all.0))

pub timestamp_faulty : (es : List Signature) (v : Json) → ((t : Timestamp) → IsTimestamp v t → ⊥) → IsFaulty (IsBody kinds.Timestamp es v) AreNamed WrongShape
timestamp_faulty es v none = inl (inr (refl, λ b. let t = timestamp_in es v b.0 b.1 in none t.0 t.1))

pub snapshot_faulty : (es : List Signature) (v : Json) (e : ShapeFault) → IsIll ((s : Snapshot) × IsSnapshot v s) e → IsFaulty (IsBody kinds.Snapshot es v) AreNamed e
snapshot_faulty es v e h = inl (ill_again e h (λ b. let f = snapshot_in es v b.0 b.1 in (f.0, f.1)))

pub targets_faulty : (es : List Signature) (v : Json) (e : ShapeFault) → IsFaulty (IsTargets v) AreTargetsNamed e → IsFaulty (IsBody kinds.Targets es v) AreNamed e
targets_faulty es v e (inl h) = inl (ill_again e h (λ b. let f = targets_in es v b.0 b.1 in (f.0, f.1)))
targets_faulty es v e (inr h) = inr (h.0, (targets h.1.0, h.1.1, h.1.2))

pub layout_faulty : (es : List Signature) (v : Json) (e : ShapeFault) → IsFaulty (IsLayout v) (λ l. NamesAreIds l.keys) e → IsFaulty (IsBody kinds.Layout es v) AreNamed e
layout_faulty es v e (inl h) = inl (ill_again e h (λ b. let f = layout_in es v b.0 b.1 in (f.0, f.1)))
layout_faulty es v e (inr h) = inr (h.0, (layout h.1.0, h.1.1, λ all. h.1.2 all.0))

pub link_faulty : (es : List Signature) (v : Json) (e : ShapeFault) → IsIll ((l : Link) × IsLink es v l) e → IsFaulty (IsBody kinds.Link es v) AreNamed e
link_faulty es v e h = inl (ill_again e h (λ b. let f = link_in es v b.0 b.1 in (f.0, f.1)))

-- ---- values

pub no_envelope : (kind : Kind) (v : Json) (e : ShapeFault)
    → IsIll ((entries : List Signature) × (signed : Json) × (type_name : List ℕ) × IsEnvelope v entries signed type_name) e → IsFaultOf kind v e
no_envelope kind v e (inl h) = inl h
no_envelope kind v e (inr h) = inr (λ bytes file. subst (λ (f : ShapeFault). IsShapeFault kind bytes f) (sym h.0)
    (v, file, (λ entries signed envelope body is. h.1 (entries, signed, kind_name kind, envelope)), (λ entries signed type_name envelope. absurd (h.1 (entries, signed, type_name, envelope)))))

pub other_type : (kind : Kind) (v : Json) (entries : List Signature) (signed : Json) (type_name : List ℕ)
    → IsEnvelope v entries signed type_name → type_name ≢ kind_name kind → IsFaultOf kind v WrongType
other_type kind v entries signed type_name envelope other =
    inr (λ bytes file. (entries, signed, type_name, record { value = v; file = file; envelope = envelope }, other))

pub bad_body : (kind : Kind) (v : Json) (entries : List Signature) (signed : Json) (type_name : List ℕ) (e : ShapeFault)
    → IsProper v → IsEnvelope v entries signed type_name → type_name ≡ kind_name kind → IsFaulty (IsBody kind entries signed) AreNamed e → IsFaultOf kind v e
bad_body kind v entries signed type_name e proper envelope same (inl (inl h)) = inl h
bad_body kind v entries signed type_name e proper envelope same (inl (inr h)) = inr (λ bytes file. subst (λ (f : ShapeFault). IsShapeFault kind bytes f) (sym h.0) (
  v,
  file,
  (λ entries' signed' envelope' body is.
      let one = envelope-once v entries entries' signed signed' type_name (kind_name kind) proper envelope envelope' in
      let part = subst (λ (z : Json). IsBody kind entries' z body) (sym one.part) is in
      h.1 (body, subst (λ (z : List Signature). IsBody kind z signed body) (sym one.entries) part)),
  (λ entries' signed' type_name' envelope'.
      let one = envelope-once v entries entries' signed signed' type_name type_name' proper envelope envelope' in
      sym one.type_name ∙ same),
))
bad_body kind v entries signed type_name e proper envelope same (inr h) = inr (λ bytes file. subst (λ (f : ShapeFault). IsShapeFault kind bytes f) (sym h.0) (
  record { entries = entries; signed = spelling signed; body = h.1.0 },
  record {
    part = signed;
    file = record { value = v; file = file; envelope = subst (λ (t : List ℕ). IsEnvelope v entries signed t) same envelope };
    signed = refl;
    body = h.1.1;
  },
  h.1.2,
))

-- the signed part is a member of the envelope
pub signed_there : (kind : Kind) (v : Json) (entries : List Signature) (body : Body) → (s : IsSignedAs kind v entries body) → HasMember v (codes "signed") s.part
signed_there kind v entries body s =
    subst (λ (z : Json). HasMember z (codes "signed") s.part) (sym s.envelope.members) (inr (inl (refl, refl)))
