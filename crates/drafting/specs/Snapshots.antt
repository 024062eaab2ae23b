-- Drafts of snapshot metadata (TUF 1.0, section 4.4).
use Rattle.std.specs.Prelude.{ℕ, List, [], ◌∷◌, ◌++◌, codes, map, Option}
use Rattle.canonical_json.specs.Json.{Json, HasMember}
use Rattle.document_parts.specs.declared.documents.Kind.TheVariants as kinds
use Rattle.drafting.specs.Members.{IsObjectAt, PutsAll}
use Rattle.drafting.specs.Drafts.{File, Drafts}
use Rattle.drafting.specs.Timestamps.{entry}
use Rattle.drafting.specs.declared.terms.Terms.{Terms}

-- ROLE.json
abbrev pub file_name : List ℕ → List ℕ
file_name role = role ++ codes ".json"

-- the entries of roles with their versions
abbrev pub entries : List (List ℕ × ℕ) → List (List ℕ × Json)
entries roles = map (λ r. (file_name r.0, entry r.1)) roles

-- the entries of these roles come into `meta`
pub record ListsRoles (roles : List (List ℕ × ℕ)) (before after : Json) : Type 0 where
  pub old : Json
  pub new : Json
  pub was : IsObjectAt before (codes "meta") old
  pub meta : HasMember after (codes "meta") new
  pub puts : PutsAll (entries roles) old new

-- the signed part of a draft that lists these versions of these roles
pub record DraftsSnapshot (held begun : Option File) (terms : Terms) (roles : List (List ℕ × ℕ)) (part : Json) : Type 0 where
  pub before : Json
  pub drafts : Drafts kinds.Snapshot held begun terms (codes "meta" ∷ []) before part
  pub lists : ListsRoles roles before part
