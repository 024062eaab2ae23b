-- What a draft is, beside the document that it follows and the one that it goes on from (TUF 1.0, sections 4.2 to 4.6; `term` and
-- `names` are further members of the signed part, which decide nothing).
use Rattle.std.specs.Prelude.{◌≡◌, ◌⊎◌, ℕ, suc, ◌≤◌, pos, List, [], ◌∷◌, codes, Option, Some, None}
use Rattle.canonical_json.specs.Json.{Json, integer, text, array, object, no_items, no_members, member, HasMember}
use Rattle.canonical_json.specs.Spelling.{spelling, IsCanonical}
use Rattle.canonical_json.specs.Faults.{write_fault}
use Rattle.canonical_json.specs.declared.WriteFault.{WriteFault}
use Rattle.denials.specs.Numbers as no
use Rattle.denials.specs.Orders.{Plain}
use Rattle.denials.specs.Views.{denial_view}
use Rattle.denials.specs.declared.denial.Denial.{Denial}
use Rattle.document_parts.specs.Dates.{IsDateTime}
use Rattle.document_parts.specs.Documents.{Body, root, timestamp, snapshot, targets, layout, link, Document}
use Rattle.metadata.specs.File.{IsDeniedShape}
use Rattle.document_parts.specs.Members.{Has, IsText}
use Rattle.document_parts.specs.Parts.{last_number}
use Rattle.metadata.specs.Shape.{kind_name, IsSignedFile, IsDocument}
use Rattle.document_parts.specs.declared.documents.Kind.{Kind}
use Rattle.drafting.specs.Members.{AlikeBut}
use Rattle.drafting.specs.declared.terms.Terms.{Terms}
use Rattle.drafting.specs.declared.faults.DraftFault.{DraftFault}
use Rattle.drafting.specs.declared.faults.DraftFault.TheVariants.{Held, Begun, Unfit, Spent, TooLate, Unlisted, Missing, OutOfMemory}

abbrev pub File : Type 0
File = List ℕ

-- ---- what a draft comes from

-- the version that a document says; layouts and links have none
abbrev pub version_of : Body → ℕ
version_of (root r) = r.version
version_of (timestamp t) = t.version
version_of (snapshot s) = s.version
version_of (targets t) = t.version
version_of (layout l) = 0
version_of (link l) = 0

-- the file is a document of the kind with this version
abbrev pub HasVersion : Kind → File → ℕ → Type 0
HasVersion kind file version = (d : Document) × IsDocument kind file d × (version_of d.body ≡ version)

-- one more than the version that is held, or the first one
abbrev pub IsNext : Kind → Option File → ℕ → Type 0
IsNext kind None version = version ≡ 1
IsNext kind (Some held) version = (before : ℕ) × HasVersion kind held before × (version ≡ suc before)

-- the file is a document of the kind with this signed part
abbrev pub HasPart : Kind → File → Json → Type 0
HasPart kind file part = (d : Document) × IsDocument kind file d × IsCanonical part d.signed

-- what the first document of a kind goes on from
abbrev pub empty_part : Kind → Json
empty_part kind = object (member (codes "_type") (text (kind_name kind)) (member (codes "spec_version") (text (codes "1.0.31")) no_members))

-- what a draft goes on from: a draft that was begun, or else what is held, or else nothing
abbrev pub IsBase : Kind → Option File → Option File → Json → Type 0
IsBase kind held (Some begun) part = HasPart kind begun part
IsBase kind (Some held) None part = HasPart kind held part
IsBase kind None None part = part ≡ empty_part kind

-- ---- the members of each draft

-- the names of the members that each draft changes, and these
abbrev pub changed : List (List ℕ) → List (List ℕ)
changed names = codes "version" ∷ codes "expires" ∷ codes "term" ∷ names

-- the member `expires` is the text of the moment
abbrev pub HasExpiry : Json → ℕ → Type 0
HasExpiry part moment = Has part (codes "expires") (λ x. (t : List ℕ) × IsText x t × IsDateTime t moment)

-- a signed part with this version, which expires as the terms say, and else is like what it goes on from, but for these names
pub record Follows (next : ℕ) (terms : Terms) (names : List (List ℕ)) (before part : Json) : Type 0 where
  pub version : HasMember part (codes "version") (integer (pos next))
  pub expires : HasExpiry part terms.expires
  pub term : HasMember part (codes "term") (integer (pos terms.seconds))
  pub others : AlikeBut (changed names) before part

-- the signed part of a draft of the kind
pub record Drafts (kind : Kind) (held begun : Option File) (terms : Terms) (names : List (List ℕ)) (before part : Json) : Type 0 where
  pub base : IsBase kind held begun before
  pub version : ℕ
  pub next : IsNext kind held version
  pub follows : Follows version terms names before part

-- the file is a document of the kind without signatures, with this signed part
pub record IsDraft (kind : Kind) (part : Json) (file : File) : Type 0 where
  pub document : Document
  pub is : IsDocument kind file document
  pub unsigned : IsSignedFile file [] part (kind_name kind)

-- ---- why there is none

-- the file fails the check of shape that this denial is of
abbrev pub IsDenied : Kind → File → Denial → Type 0
IsDenied kind file denial = (n : ℕ) × IsDeniedShape kind file n × (denial_view denial ≡ Plain n)

-- the file without signatures that has this signed part
abbrev pub unsigned_file : Json → Json
unsigned_file part = object (member (codes "signatures") (array no_items) (member (codes "signed") part no_members))

-- the file with this signed part has no canonical text, or fails a check of shape
abbrev pub IsUnfit : Kind → Json → Denial → Type 0
IsUnfit kind part denial =
    IsDenied kind (spelling (unsigned_file part)) denial
    ⊎ ((fault : WriteFault) × (write_fault (unsigned_file part) ≡ Some fault) × (denial_view denial ≡ Plain no.not_canonical))

abbrev pub IsHeldAnd : Option File → (File → Type 0) → Type 0
IsHeldAnd file P = (f : File) × (file ≡ Some f) × P f

-- the first number that no integer of canonical JSON is
abbrev pub past_integers : ℕ
past_integers = 9223372036854775808

-- no text of a date and time has the moment, or no integer is the term
abbrev pub IsTooLate : Terms → Type 0
IsTooLate terms = ((t : List ℕ) → IsDateTime t terms.expires → ⊥) ⊎ (past_integers ≤ terms.seconds)

-- why no draft is made whose signed part would be one of these, where what a kind alone is refused for is as `Own` says
abbrev pub IsUndrafted : Kind → Option File → Option File → Terms → (Json → Type 0) → (DraftFault → Type 0) → DraftFault → Type 0
IsUndrafted kind held begun terms Parts Own (Held denial) = IsHeldAnd held (λ f. IsDenied kind f denial)
IsUndrafted kind held begun terms Parts Own (Begun denial) = IsHeldAnd begun (λ f. IsDenied kind f denial)
IsUndrafted kind held begun terms Parts Own Spent = IsHeldAnd held (λ f. HasVersion kind f last_number)
IsUndrafted kind held begun terms Parts Own TooLate = IsTooLate terms
IsUndrafted kind held begun terms Parts Own (Unfit denial) = (part : Json) × Parts part × IsUnfit kind part denial
IsUndrafted kind held begun terms Parts Own (Unlisted i) = Own (Unlisted i)
IsUndrafted kind held begun terms Parts Own (Missing role) = Own (Missing role)
IsUndrafted kind held begun terms Parts Own OutOfMemory = Unit {0}

-- a kind that is refused for nothing else
abbrev pub nothing_else : DraftFault → Type 0
nothing_else fault = ⊥
