-- What a root was before roots had profiles (TUF 1.0, section 4.3).
use Rattle.std.specs.Prelude.{◌≡◌, codes, None}
use Rattle.canonical_json.specs.Json.{Json}
use Rattle.document_parts.specs.Documents.{Root, first_profile}
use Rattle.document_parts.specs.Members.{Has}
use Rattle.document_parts.specs.Parts.{IsTable}
use Rattle.document_parts.specs.Bodies.{HasHead, IsConsistent, AreRoles, roles_of}

-- its head was that of the other kinds, and it said neither of the last two
pub record WasRoot (signed : Json) (r : Root) : Type 0 where
  pub head : HasHead signed r.version r.expires
  pub consistent : IsConsistent signed
  pub keys : Has signed (codes "keys") (λ x. IsTable x r.keys)
  pub roles : Has signed (codes "roles") (λ x. AreRoles x r.keys (roles_of r))
  pub profile : r.profile ≡ first_profile
  pub required : r.required ≡ None
