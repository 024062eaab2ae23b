-- What was a root before roots had profiles is a root of the first profile now.
use Rattle.std.proofs.Common.{◌≡◌, ◌↔◌, None, sym, subst}
use Rattle.canonical_json.specs.Json.{Json}
use Rattle.metadata.specs.BeforeProfiles.{WasRoot}
use Rattle.document_parts.specs.Bodies.{HasRequired, HasRootHead, IsRoot}
use Rattle.document_parts.specs.Documents.{Profile, Root, first_profile}

is_now : (signed : Json) (r : Root) → WasRoot signed r → IsRoot signed r
is_now signed r was = record {
  head = subst (λ (p : Profile). HasRootHead signed p r.version r.expires) (sym was.profile) was.head;
  consistent = was.consistent;
  keys = was.keys;
  roles = was.roles;
  required = subst (λ (p : Profile). HasRequired signed p r.required) (sym was.profile) was.required;
}

was_then : (signed : Json) (r : Root) → IsRoot signed r → r.profile ≡ first_profile → r.required ≡ None → WasRoot signed r
was_then signed r is first none = record {
  head = subst (λ (p : Profile). HasRootHead signed p r.version r.expires) first is.head;
  consistent = is.consistent;
  keys = is.keys;
  roles = is.roles;
  profile = first;
  required = none;
}

pub roots_as_before : (signed : Json) (r : Root) → WasRoot signed r ↔ (IsRoot signed r × (r.profile ≡ first_profile) × (r.required ≡ None))
roots_as_before signed r = (λ was. (is_now signed r was, was.profile, was.required), λ is. was_then signed r is.0 is.1 is.2)
