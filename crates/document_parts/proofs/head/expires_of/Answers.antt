use Rattle.std.proofs.Common.{ℕ, List, codes, subst}
use Rattle.canonical_json.specs.View.{view}
use Rattle.document_parts.specs.Dates.{IsDateTime}
use Rattle.document_parts.specs.Members.{IsText}
use Rattle.document_parts.proofs.Found.{none_has}
use Rattle.document_parts.proofs.Once.{text-once}
use Rattle.document_parts.proofs.head.expires_of.Goals as goal

pub returns-in-None : goal.returns-in-None
returns-in-None c seconds =
    let found = view c.in_ok-found.found.now in
    none_has (λ x. (bytes : List ℕ) × IsText x bytes × IsDateTime bytes seconds) (view c.args.value.now) found (codes "expires")
    c.in_ok-found.ensures.only
    (λ k.
    let same = text-once found k.0 c.in_ok-text.text.now c.in_ok-found.ensures.proper k.1 c.in_ok-text.ensures in
    let e = c.in-None.ensures.only seconds (subst (λ (t : List ℕ). IsDateTime t seconds) same k.2) in
    absurd (cc))
