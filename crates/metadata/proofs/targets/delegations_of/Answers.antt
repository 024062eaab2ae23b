use Rattle.std.proofs.Common.{codes}
use Rattle.std.proofs.lemmas.Result.{err_from_is_err_and}
use Rattle.canonical_json.specs.View.{view}
use Rattle.document_parts.specs.Bodies.{HasDelegations}
use Rattle.document_parts.proofs.Found.{held}
use Rattle.document_parts.proofs.Ill.{ill_again}
use Rattle.metadata.proofs.targets.delegations_of.Goals as goal

pub returns-in_err-delegations-clause-err : goal.returns-in_err-delegations-clause-err
returns-in_err-delegations-clause-err c =
    let p = err_from_is_err_and c.from_residual.result c.from_residual.ensures.1 in
    rw (p.1, p.2) (ill_again _ c.in_err-delegations.ensures.err (λ o. held HasDelegations (codes "delegations") (view c.args.signed.now) (view c.in-Some.found.now) c.in-Some.ensures.found c.in-Some.ensures.only o.0 o.1))
