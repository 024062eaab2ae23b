-- Files of links that nobody signed yet.
use Rattle.std.proofs.Common.{◌≡◌, ◌⊎◌, inl, inr, ℕ, ◌≤◌, List, length, codes, refl, sym, ◌∙◌, subst, arith}
use Rattle.limits.specs.Limits.{file_limit}
use Rattle.canonical_json.specs.Json.{Json, text, array, object, no_items, no_members, member}
use Rattle.canonical_json.specs.Spelling.{IsCanonical}
use Rattle.document_parts.specs.Bodies.{AreArtifacts, IsTextOf}
use Rattle.document_parts.specs.Links.{Artifacts}
use Rattle.document_parts.specs.Members.{IsText}
use Rattle.metadata.specs.Shape.{IsEnvelopeFault, IsShapeFault, kind_name}
use Rattle.document_parts.specs.declared.documents.Kind.TheVariants as kinds
use Rattle.document_parts.specs.declared.documents.ShapeFault.{ShapeFault}
use Rattle.document_parts.specs.declared.documents.ShapeFault.TheVariants.{TooLong, NotCanonical, WrongShape, WrongType, BadKeyId, OutOfMemory}
use Rattle.path_patterns.specs.Grammar.{IsName}
use Rattle.drafting.specs.Drafts.{File, unsigned_file}
use Rattle.denials.specs.declared.denial.Denial.{Denial}
use Rattle.denials.specs.declared.denial.Denial.TheVariants as denials
use Rattle.drafting.specs.declared.faults.DraftFault.{DraftFault}
use Rattle.drafting.specs.declared.faults.DraftFault.TheVariants as drafts
use Rattle.chain_drafting.specs.Links.{HasLinkMembers, IsLinkPart, IsUnfitLink, IsUnsignedLink}
use Rattle.chain_drafting.specs.steps.Recorded.{IsLinkFile}

shape_fault : (file : File) (e : ShapeFault) → IsEnvelopeFault file e → IsShapeFault kinds.Link file e
shape_fault file TooLong h = h
shape_fault file NotCanonical h = h
shape_fault file WrongShape h = (h.0, h.1, (λ entries signed is body b. h.2 entries signed (kind_name kinds.Link) is), (λ entries signed t is. absurd (h.2 entries signed t is)))
shape_fault file WrongType h = absurd h
shape_fault file BadKeyId h = absurd h
shape_fault file OutOfMemory h = absurd h

-- a file whose envelope is faulty is no link
pub no_link : (file : File) (e : ShapeFault) → (e ≡ OutOfMemory) ⊎ IsEnvelopeFault file e → (e ≡ OutOfMemory) ⊎ IsShapeFault kinds.Link file e
no_link file e (inl h) = inl h
no_link file e (inr h) = inr (shape_fault file e h)

pub link_part : (v k m n p : Json) → v ≡ object (member (codes "_type") k (member (codes "materials") m (member (codes "name") n (member (codes "products") p no_members))))
    → IsText k (codes "link") → (a : Artifacts) × AreArtifacts m a → (x : List ℕ) × IsTextOf IsName n x → (a : Artifacts) × AreArtifacts p a → IsLinkPart v
link_part v k m n p is typed materials name products = subst IsLinkPart (sym is) (record {
  typed = inl (refl, typed);
  link = record { name = name.0; materials = materials.0; products = products.0 };
  is = λ entry. record {
    one = refl;
    name = (n, inr (inr (inl (refl, refl))), name.1);
    materials = (m, inr (inl (refl, refl)), materials.1);
    products = (p, inr (inr (inr (inl (refl, refl)))), products.1);
  };
})

pub unsigned_link : (file : File) (v part : Json) → length file ≤ file_limit → IsCanonical v file → v ≡ unsigned_file part → IsLinkFile v → IsUnsignedLink part file
unsigned_link file v part short canonical is found =
    let both : object (member (codes "signatures") found.0 (member (codes "signed") found.1 no_members)) ≡ unsigned_file part = sym found.2 ∙ is in
    let part_is : found.1 ≡ part = cc in
    let link = subst IsLinkPart part_is found.3 in
    record {
      unsigned = record {
        value = unsigned_file part;
        file = record { short = short; canonical = subst (λ (w : Json). IsCanonical w file) is canonical };
        envelope = record {
          list = array no_items;
          members = refl;
          signatures = ((no_items, refl, tt), omega arith, tt);
          typed = (text (kind_name kinds.Link), link.typed, refl);
        };
      };
      is = link;
    }

-- ---- why there is none

pub other_link : (v k m n p : Json) → v ≡ object (member (codes "_type") k (member (codes "materials") m (member (codes "name") n (member (codes "products") p no_members))))
    → (IsText k (codes "link") → (x : List ℕ) × IsTextOf IsName n x → (a : Artifacts) × AreArtifacts m a → (a : Artifacts) × AreArtifacts p a → ⊥) → HasLinkMembers v → ⊥
other_link v k m n p is none h =
    let both : object (member (codes "_type") k (member (codes "materials") m (member (codes "name") n (member (codes "products") p no_members))))
    ≡ object (member (codes "_type") h.kind (member (codes "materials") h.materials (member (codes "name") h.name (member (codes "products") h.products no_members)))) = sym is ∙ h.members in
    let kind : h.kind ≡ k = cc in
    let materials : h.materials ≡ m = cc in
    let name : h.name ≡ n = cc in
    let products : h.products ≡ p = cc in
    none (subst (λ (x : Json). IsText x (codes "link")) kind h.is_typed) (subst (λ (x : Json). (t : List ℕ) × IsTextOf IsName x t) name h.is_named)
    (subst (λ (x : Json). (a : Artifacts) × AreArtifacts x a) materials h.are_materials) (subst (λ (x : Json). (a : Artifacts) × AreArtifacts x a) products h.are_products)

pub unfit_as : {P Q A B : Type 0} → P ⊎ (Q × A) → (A → B) → P ⊎ (Q × B)
unfit_as (inl p) f = inl p
unfit_as (inr h) f = inr (h.0, f h.1)

pub shape_unfit : (v : Json) (e : DraftFault)
    → (e ≡ drafts.OutOfMemory) ⊎ ((e ≡ drafts.Unfit denials.WrongShape) × ((part : Json) → v ≡ unsigned_file part → HasLinkMembers part → ⊥))
    → (e ≡ drafts.OutOfMemory) ⊎ ((d : Denial) × (e ≡ drafts.Unfit d) × ((part : Json) → v ≡ unsigned_file part → IsUnfitLink part d))
shape_unfit v e (inl h) = inl h
shape_unfit v e (inr h) = inr (denials.WrongShape, h.0, (λ part is. inr (inr (refl, h.1 part is))))

pub unfit_part : (v part : Json) (e : DraftFault) → v ≡ unsigned_file part
    → (e ≡ drafts.OutOfMemory) ⊎ ((d : Denial) × (e ≡ drafts.Unfit d) × ((p : Json) → v ≡ unsigned_file p → IsUnfitLink p d))
    → (e ≡ drafts.OutOfMemory) ⊎ ((d : Denial) × (e ≡ drafts.Unfit d) × IsUnfitLink part d)
unfit_part v part e is (inl h) = inl h
unfit_part v part e is (inr h) = inr (h.0, h.1, h.2 part is)

pub undrafted : (part : Json) (e : DraftFault) (Parts : Json → Type 0) (Begun : Type 0) → Parts part
    → (e ≡ drafts.OutOfMemory) ⊎ ((d : Denial) × (e ≡ drafts.Unfit d) × IsUnfitLink part d)
    → (e ≡ drafts.OutOfMemory) ⊎ (Begun ⊎ ((d : Denial) × (e ≡ drafts.Unfit d) × ((p : Json) × Parts p × IsUnfitLink p d)))
undrafted part e Parts Begun is (inl h) = inl h
undrafted part e Parts Begun is (inr h) = inr (inr (h.0, h.1, (part, is, h.2)))
