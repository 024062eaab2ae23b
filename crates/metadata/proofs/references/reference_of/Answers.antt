use Rattle.std.proofs.Common.{option_map}
use Rattle.std.proofs.lemmas.Result.{err_from_is_err_and}
use Rattle.canonical_json.specs.View.{view}
use Rattle.metadata.specs.steps.Spelled.{spelled_reference}
use Rattle.document_parts.proofs.Ill.{ill_again}
use Rattle.metadata.proofs.ReferencesOnce.{custom_is, in_custom}
use Rattle.metadata.proofs.references.reference_of.Goals as goal

pub returns-in_err-reference-clause-err : goal.returns-in_err-reference-clause-err
returns-in_err-reference-clause-err c =
    let p = err_from_is_err_and c.from_residual.result c.from_residual.ensures.1 in
    rw (p.1, p.2) (ill_again _ c.in_err-reference.ensures.err
    (λ o. (o.0, in_custom (view c.args.value.now) (view c.in-Some.custom.now) c.in-Some.ensures.found c.in-Some.ensures.only o.0 o.1)))

pub returns-clause-ok : goal.returns-clause-ok
returns-clause-ok c =
    custom_is (view c.args.value.now) (view c.in-Some.custom.now) (option_map spelled_reference c.in_ok-reference.reference) c.in-Some.ensures.found c.in_ok-reference.ensures.ok
