use Rattle.std.proofs.Common.{codes}
use Rattle.std.proofs.lemmas.Result.{err_from_is_err_and}
use Rattle.canonical_json.specs.View.{view}
use Rattle.document_parts.specs.Bodies.{IsLayoutReference}
use Rattle.document_parts.proofs.Found.{held}
use Rattle.document_parts.proofs.Ill.{ill_again}
use Rattle.metadata.proofs.references.reference_in.Goals as goal

pub returns-in_err-reference-clause-err : goal.returns-in_err-reference-clause-err
returns-in_err-reference-clause-err c =
    let p = err_from_is_err_and c.from_residual.result c.from_residual.ensures.1 in
    rw (p.1, p.2) (ill_again _ c.in_err-reference.ensures.err
    (λ o. held IsLayoutReference (codes "layout") (view c.args.custom.now) (view c.in-Some-member_of.found.now) c.in-Some-member_of.ensures.found c.in-Some-member_of.ensures.only o.0 o.1.2))
