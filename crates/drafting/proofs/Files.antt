-- The file of a signed part, without signatures.
use Rattle.std.proofs.Common.{◌≡◌, ◌⊎◌, inl, inr, ℕ, List, [], ◌∷◌, Some, codes, refl, sym, ap, ◌∙◌, subst}
use Rattle.canonical_json.specs.Json.{Json, array, object, Items, no_items, item, no_members, member}
use Rattle.canonical_json.specs.Spelling.{spelling, IsCanonical}
use Rattle.canonical_json.specs.Faults.{write_fault}
use Rattle.denials.specs.declared.denial.Denial.{Denial}
use Rattle.keys_roles.specs.Plain.{Signature}
use Rattle.document_parts.specs.Documents.{Document}
use Rattle.document_parts.specs.Members.{ItemsAre}
use Rattle.document_parts.specs.Parts.{IsEntry}
use Rattle.metadata.specs.Shape.{kind_name, IsSignedFile, IsDocument}
use Rattle.document_parts.specs.declared.documents.Kind.{Kind}
use Rattle.drafting.specs.Drafts.{File, IsDenied, IsDraft, IsUnfit, unsigned_file}
use Rattle.drafting.specs.declared.faults.DraftFault.{DraftFault}
use Rattle.drafting.specs.declared.faults.DraftFault.TheVariants.{Unfit, OutOfMemory}
use Rattle.drafting.specs.steps.Unwritten.{IsUnwritten}

no_entries : (vs : Items) (es : List Signature) → vs ≡ no_items → ItemsAre IsEntry vs es → es ≡ []
no_entries no_items [] is h = refl
no_entries no_items (e ∷ es) is h = absurd h
no_entries (item v vs) es is h = absurd (cc)

pub drafted : (kind : Kind) (part v : Json) (file : File) (d : Document) → ((a b : Json) (bytes : List ℕ) → IsCanonical a bytes → IsCanonical b bytes → a ≡ b)
    → v ≡ unsigned_file part → IsCanonical v file → IsDocument kind file d → IsDraft kind part file
drafted kind part v file d one is canonical document =
    let f = document.read.file in
    let same : f.value ≡ unsigned_file part = one f.value v file f.file.canonical canonical ∙ is in
    let both : object (member (codes "signatures") f.envelope.list (member (codes "signed") document.read.part no_members)) ≡ unsigned_file part = sym f.envelope.members ∙ same in
    let list_is : f.envelope.list ≡ array no_items = cc in
    let part_is : document.read.part ≡ part = cc in
    let items = f.envelope.signatures.0 in
    let arrays : array items.0 ≡ array no_items = sym items.1 ∙ list_is in
    let items_are : items.0 ≡ no_items = cc in
    let entries_are = no_entries items.0 d.entries items_are items.2 in
    record {
      document = d;
      is = document;
      unsigned = subst (λ (es : List Signature). IsSignedFile file es part (kind_name kind)) entries_are
          (subst (λ (p : Json). IsSignedFile file d.entries p (kind_name kind)) part_is f);
    }

pub unfit : (kind : Kind) (part v : Json) (file : File) (denial : Denial) → v ≡ unsigned_file part → file ≡ spelling v → IsDenied kind file denial → IsUnfit kind part denial
unfit kind part v file denial is spelled denied =
    inl (subst (λ (f : File). IsDenied kind f denial) (spelled ∙ ap spelling is) denied)

abbrev pub IsUnfinished : Kind → Json → DraftFault → Type 0
IsUnfinished kind part e = (e ≡ OutOfMemory) ⊎ ((d : Denial) × (e ≡ Unfit d) × IsUnfit kind part d)

pub unwritten : (kind : Kind) (part v : Json) (e : DraftFault) → v ≡ unsigned_file part → (e ≡ OutOfMemory) ⊎ IsUnwritten v e → IsUnfinished kind part e
unwritten kind part v e is (inl h) = inl h
unwritten kind part v e is (inr h) = inr (_, h.0, inr (h.1.0, subst (λ (w : Json). write_fault w ≡ Some h.1.0) is h.1.1, refl))

pub unshaped : (kind : Kind) (part v : Json) (file : File) (e : DraftFault) → v ≡ unsigned_file part → file ≡ spelling v
    → (e ≡ OutOfMemory) ⊎ ((d : Denial) × (e ≡ Unfit d) × IsDenied kind file d) → IsUnfinished kind part e
unshaped kind part v file e is spelled (inl h) = inl h
unshaped kind part v file e is spelled (inr h) = inr (h.0, h.1, unfit kind part v file h.0 is spelled h.2)
