use Rattle.std.proofs.Common.{◌≡◌, true, false, subst}
use Rattle.canonical_json.specs.View.{view}
use Rattle.document_parts.specs.Parts.{IsSpecVersion}
use Rattle.document_parts.proofs.head.has_spec_version.Goals as goal

pub returns-in-Some : goal.returns-in-Some
returns-in-Some c = (
  λ t. (view c.in-Some.found.now, c.in-Some.ensures.found, c.is_spec_version.ensures.0 t),
  λ h. c.is_spec_version.ensures.1 (subst IsSpecVersion (c.in-Some.ensures.only h.0 h.1) h.2),
)

pub returns-in-None : goal.returns-in-None
returns-in-None c = (
  λ t. absurd (let e : false ≡ true = t in cc),
  λ h. absurd (c.in-None.ensures.found h.0 h.1),
)
