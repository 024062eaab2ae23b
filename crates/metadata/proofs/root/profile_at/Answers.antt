use Rattle.std.proofs.Common.{codes}
use Rattle.canonical_json.specs.View.{view}
use Rattle.document_parts.specs.Parts.{IsSpecVersionOf}
use Rattle.document_parts.proofs.Found.{none_has}
use Rattle.metadata.proofs.root.profile_at.Goals as goal

pub returns-in_err-found : goal.returns-in_err-found
returns-in_err-found c = rw c.from_residual.ensures (λ p h. c.in_err-found.ensures.found h.0 h.1)

pub returns-in_err-profile : goal.returns-in_err-profile
returns-in_err-profile c = rw c.from_residual-in_err-profile.ensures
    (λ p. none_has (IsSpecVersionOf p) (view c.args.signed.now) (view c.in_ok-found.found.now) (codes "spec_version") c.in_ok-found.ensures.only (c.in_err-profile.ensures p))

pub returns : goal.returns
returns c = (view c.in_ok-found.found.now, c.in_ok-found.ensures.found, c.in_ok-profile.ensures)
