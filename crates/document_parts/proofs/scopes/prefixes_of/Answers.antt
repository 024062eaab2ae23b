use Rattle.std.proofs.Common.{refl, inr, subst}
use Rattle.std.proofs.lemmas.Result.{err_from_is_err_and}
use Rattle.canonical_json.specs.Json.{Json}
use Rattle.canonical_json.specs.View.{view}
use Rattle.path_patterns.specs.Grammar.{IsHashPrefix}
use Rattle.document_parts.specs.Bodies.{AreTextsOf}
use Rattle.document_parts.proofs.Ill.{ill_again}
use Rattle.document_parts.proofs.OneOfTwo.{without_paths}
use Rattle.document_parts.proofs.scopes.prefixes_of.Goals as goal

pub returns-in_default-clause-err : goal.returns-in_default-clause-err
returns-in_default-clause-err c = inr (refl, λ s. let p = without_paths (view c.args.value.now) c.requires.none s in c.in_default.ensures.found p.0 p.1)

pub returns-in_err-prefixes-clause-err : goal.returns-in_err-prefixes-clause-err
returns-in_err-prefixes-clause-err c =
    let p = err_from_is_err_and c.from_residual.result c.from_residual.ensures.1 in
    rw (p.1, p.2) (ill_again _ c.in_err-prefixes.ensures.err
    (λ s.
    let m = without_paths (view c.args.value.now) c.requires.none s in
    let same = c.in-Some.ensures.only m.0 m.1 in
    (m.2.0, subst (λ (x : Json). AreTextsOf IsHashPrefix x m.2.0) same m.2.1)))
