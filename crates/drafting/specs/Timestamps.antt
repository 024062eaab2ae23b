-- Drafts of timestamp metadata (TUF 1.0, section 4.6).
use Rattle.std.specs.Prelude.{ℕ, pos, [], ◌∷◌, codes, Option}
use Rattle.canonical_json.specs.Json.{Json, integer, object, no_members, member, HasMember}
use Rattle.document_parts.specs.declared.documents.Kind.TheVariants as kinds
use Rattle.drafting.specs.Drafts.{File, Drafts}
use Rattle.drafting.specs.declared.terms.Terms.{Terms}

-- {"version":..}: neither length nor hashes
abbrev pub entry : ℕ → Json
entry version = object (member (codes "version") (integer (pos version)) no_members)

-- {"snapshot.json":{"version":..}}
abbrev pub snapshot_entry : ℕ → Json
snapshot_entry version = object (member (codes "snapshot.json") (entry version) no_members)

-- the signed part of a draft that names this version of the snapshot
pub record DraftsTimestamp (held begun : Option File) (terms : Terms) (snapshot : ℕ) (part : Json) : Type 0 where
  pub before : Json
  pub drafts : Drafts kinds.Timestamp held begun terms (codes "meta" ∷ []) before part
  pub meta : HasMember part (codes "meta") (snapshot_entry snapshot)
