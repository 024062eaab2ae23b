use Rattle.std.proofs.Common.{codes}
use Rattle.std.proofs.lemmas.Result.{err_from_is_err_and}
use Rattle.canonical_json.specs.View.{view}
use Rattle.path_patterns.specs.Grammar.{IsPattern}
use Rattle.document_parts.specs.Bodies.{AreTextsOf}
use Rattle.document_parts.proofs.Found.{held}
use Rattle.document_parts.proofs.Ill.{ill_again}
use Rattle.document_parts.proofs.required.patterns_at.Goals as goal

pub returns-in_err-patterns-clause-err : goal.returns-in_err-patterns-clause-err
returns-in_err-patterns-clause-err c =
    let p = err_from_is_err_and c.from_residual.result c.from_residual.ensures.1 in
    rw (p.1, p.2) (ill_again _ c.in_err-patterns.ensures.err
    (λ o. held (AreTextsOf IsPattern) (codes "layout_required") (view c.args.signed.now) (view c.in-Some.found.now) c.in-Some.ensures.found c.in-Some.ensures.only o.0 o.1))
