-- Drafts of targets metadata (TUF 1.0, section 4.5).
use Rattle.std.specs.Prelude.{◌≡◌, ℕ, pos, List, [], ◌∷◌, ◌++◌, length, codes, map, Option}
use Rattle.std.specs.List.{AllByRecursion}
use Rattle.hex.specs.Hex.{encode_lower}
use Rattle.canonical_json.specs.Json.{Json, integer, text, object, Members, no_members, member, HasMember}
use Rattle.keys_roles.specs.Rules.{AreDistinct}
use Rattle.document_parts.specs.declared.documents.Kind.TheVariants as kinds
use Rattle.drafting.specs.Members.{IsNoneOf, AlikeBut, HasNone, IsLast, IsObjectAt}
use Rattle.drafting.specs.Drafts.{File, Drafts, IsBase}
use Rattle.drafting.specs.declared.terms.Terms.{Terms}
use Rattle.drafting.specs.declared.faults.DraftFault.{DraftFault}
use Rattle.drafting.specs.declared.faults.DraftFault.TheVariants.{Unlisted}

-- what is said of a target: its length in bytes and its digest
pub record Said : Type 0 where
  pub len : ℕ
  pub digest : List ℕ

-- {"sha256":..}
abbrev pub hashes : List ℕ → Json
hashes digest = object (member (codes "sha256") (text (encode_lower digest)) no_members)

-- an object with this length and this digest, which else is like the one that was there
pub record IsListing (said : Said) (old new : Json) : Type 0 where
  pub members : Members
  pub is : new ≡ object members
  pub len : HasMember new (codes "length") (integer (pos said.len))
  pub digest : HasMember new (codes "hashes") (hashes said.digest)
  pub others : AlikeBut (codes "length" ∷ codes "hashes" ∷ []) old new

-- the path has a listing that says this, and has what else the path's listing had
pub record Adds (before after : Json) (path : List ℕ) (said : Said) : Type 0 where
  pub old : Json
  pub new : Json
  pub was : IsObjectAt before path old
  pub has : HasMember after path new
  pub listing : IsListing said old new

-- each path that is added has what is said of it last, and every other listing is as it was
pub record AddsAll (rows : List (List ℕ × Said)) (before after : Json) : Type 0 where
  pub named : (path : List ℕ) (said : Said) → IsLast rows path said → Adds before after path said
  pub others : AlikeBut (map (λ r. r.0) rows) before after

abbrev pub IsThere : Json → List ℕ → Type 0
IsThere v name = (x : Json) × HasMember v name x

-- each of these paths was listed and is no more, none stands twice, and every other listing is as it was
pub record RemovesAll (paths : List (List ℕ)) (before after : Json) : Type 0 where
  pub listed : AllByRecursion (IsThere before) paths
  pub distinct : AreDistinct paths
  pub gone : AllByRecursion (HasNone after) paths
  pub others : AlikeBut paths before after

-- the path at this place is the first that is not listed, or stands before already
pub record IsUnlisted (paths : List (List ℕ)) (before : Json) (place : ℕ) : Type 0 where
  pub front : List (List ℕ)
  pub path : List ℕ
  pub back : List (List ℕ)
  pub is : paths ≡ front ++ path ∷ back
  pub at : length front ≡ place
  pub listed : AllByRecursion (IsThere before) front
  pub distinct : AreDistinct front
  pub unlisted : (x : Json) → HasMember before path x → IsNoneOf front path → ⊥

-- what changes of targets metadata: the paths that are taken away, and then those that are added
pub record Changes : Type 0 where
  pub removed : List (List ℕ)
  pub added : List (List ℕ × Said)

pub record ChangesTargets (changes : Changes) (before after : Json) : Type 0 where
  pub old : Json
  pub between : Json
  pub new : Json
  pub was : IsObjectAt before (codes "targets") old
  pub removes : RemovesAll changes.removed old between
  pub adds : AddsAll changes.added between new
  pub targets : HasMember after (codes "targets") new

-- the signed part of a draft that makes these changes
pub record DraftsTargets (held begun : Option File) (terms : Terms) (changes : Changes) (part : Json) : Type 0 where
  pub before : Json
  pub drafts : Drafts kinds.Targets held begun terms (codes "targets" ∷ []) before part
  pub changes_targets : ChangesTargets changes before part

-- a path that is to be taken away and is not listed
abbrev pub IsNoTarget : Option File → Option File → Changes → DraftFault → Type 0
IsNoTarget held begun changes (Unlisted place) =
    (before old : Json) × IsBase kinds.Targets held begun before × IsObjectAt before (codes "targets") old × IsUnlisted changes.removed old place
IsNoTarget held begun changes fault = ⊥
