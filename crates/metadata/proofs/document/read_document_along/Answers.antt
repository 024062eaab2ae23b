use Rattle.std.proofs.Common.{◌≡◌, false, true}
use Rattle.canonical_json.specs.View.{view}
use Rattle.metadata.proofs.Judged.{signed_there}
use Rattle.metadata.proofs.document.read_document_along.Goals as goal

pub returns-in_default-clause-fault : goal.returns-in_default-clause-fault
returns-in_default-clause-fault c =
    let there = signed_there _ (view c.in-Ok.value) _ _ c.in_ok-signatures.ensures.ok in
    let e : false ≡ true = c.in_default.ensures.none (view c.in-Ok.value) c.in_ok-signatures.ensures.ok.part c.in-Ok.ensures.value there in
    absurd (cc)
