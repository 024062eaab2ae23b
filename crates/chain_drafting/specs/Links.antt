-- Drafts of links (in-toto 1.0, section 4.4).
use Rattle.std.specs.Prelude.{◌≡◌, ◌⊎◌, ℕ, ◌<◌, List, [], ◌∷◌, codes, length, map, Option, Some, None}
use Rattle.limits.specs.Limits.{file_limit}
use Rattle.canonical_json.specs.Json.{Json, text, object, no_members, member, HasMember}
use Rattle.canonical_json.specs.Spelling.{spelling, IsCanonical}
use Rattle.canonical_json.specs.Faults.{write_fault}
use Rattle.canonical_json.specs.declared.WriteFault.{WriteFault}
use Rattle.denials.specs.Numbers as no
use Rattle.denials.specs.Orders.{Plain}
use Rattle.denials.specs.Views.{denial_view}
use Rattle.denials.specs.declared.denial.Denial.{Denial}
use Rattle.keys_roles.specs.Plain.{Signature}
use Rattle.document_parts.specs.Bodies.{AreArtifacts, IsLink, IsTextOf}
use Rattle.document_parts.specs.Links.{Artifacts, Link}
use Rattle.document_parts.specs.Members.{IsText}
use Rattle.metadata.specs.Shape.{kind_name, IsSignedBy, IsSignedFile}
use Rattle.document_parts.specs.declared.documents.Kind.TheVariants as kinds
use Rattle.path_patterns.specs.Grammar.{IsName}
use Rattle.drafting.specs.Drafts.{File, unsigned_file}
use Rattle.drafting.specs.Members.{Puts, PutsAll}
use Rattle.drafting.specs.Targets.{hashes}
use Rattle.chain_drafting.specs.Within.{Inside, typed_part}

-- artifacts as members: the last of a path decides
abbrev pub artifact_rows : List (List ℕ × List ℕ) → List (List ℕ × Json)
artifact_rows artifacts = map (λ a. (a.0, hashes a.1)) artifacts

-- what a draft goes on from: the signed part of a file, with signatures or without, or nothing
abbrev pub IsLinkBase : Option File → Json → Type 0
IsLinkBase None part = part ≡ typed_part (kind_name kinds.Link)
IsLinkBase (Some begun) part = (entries : List Signature) × (signed : List ℕ) × IsSignedBy begun entries signed × IsCanonical part signed

-- the artifacts join those under the name
abbrev pub Joins : List ℕ → List (List ℕ × List ℕ) → Json → Json → Type 0
Joins name artifacts = Inside name (PutsAll (artifact_rows artifacts))

-- the materials and the products join, and the step has the name
pub record Records (name : List ℕ) (materials products : List (List ℕ × List ℕ)) (before after : Json) : Type 0 where
  pub between : Json
  pub behind : Json
  pub materials_join : Joins (codes "materials") materials before between
  pub named : Puts (codes "name") (text name) between behind
  pub products_join : Joins (codes "products") products behind after

-- the signed part of a draft
pub record DraftsLink (begun : Option File) (name : List ℕ) (materials products : List (List ℕ × List ℕ)) (part : Json) : Type 0 where
  pub before : Json
  pub base : IsLinkBase begun before
  pub records : Records name materials products before part

-- what is signed of a link, whoever signs it
pub record IsLinkPart (part : Json) : Type 0 where
  pub typed : HasMember part (codes "_type") (text (kind_name kinds.Link))
  pub link : Link
  pub is : (entry : Signature) → IsLink (entry ∷ []) part link

-- the file has this signed part and no signature, and beside any one signature the part is a link
pub record IsUnsignedLink (part : Json) (file : File) : Type 0 where
  pub unsigned : IsSignedFile file [] part (kind_name kinds.Link)
  pub is : IsLinkPart part

-- ---- why there is none

-- the members of a link, these four and no other
pub record HasLinkMembers (part : Json) : Type 0 where
  pub kind : Json
  pub materials : Json
  pub name : Json
  pub products : Json
  pub members : part ≡ object (member (codes "_type") kind (member (codes "materials") materials (member (codes "name") name (member (codes "products") products no_members))))
  pub is_typed : IsText kind (kind_name kinds.Link)
  pub is_named : (n : List ℕ) × IsTextOf IsName name n
  pub are_materials : (a : Artifacts) × AreArtifacts materials a
  pub are_products : (a : Artifacts) × AreArtifacts products a

-- the file without signatures is too long or has no canonical text, or the signed part is no link's
abbrev pub IsUnfitLink : Json → Denial → Type 0
IsUnfitLink part denial =
    ((denial_view denial ≡ Plain no.too_long) × (file_limit < length (spelling (unsigned_file part))))
    ⊎ (((fault : WriteFault) × (write_fault (unsigned_file part) ≡ Some fault) × (denial_view denial ≡ Plain no.not_canonical))
    ⊎ ((denial_view denial ≡ Plain no.wrong_shape) × (HasLinkMembers part → ⊥)))
