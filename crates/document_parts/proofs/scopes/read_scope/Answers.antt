use Rattle.std.proofs.Common.{◌≡◌, false, true, refl, inr, subst, sym, ◌∙◌}
use Rattle.std.proofs.lemmas.Result.{err_from_is_err_and}
use Rattle.canonical_json.specs.Json.{Json}
use Rattle.canonical_json.specs.View.{view}
use Rattle.path_patterns.specs.Grammar.{IsPattern}
use Rattle.document_parts.specs.Bodies.{AreTextsOf}
use Rattle.document_parts.proofs.Ill.{ill_again}
use Rattle.document_parts.proofs.OneOfTwo.{with_paths}
use Rattle.document_parts.proofs.scopes.read_scope.Goals as goal

pub returns-then-not-lacks-clause-err : goal.returns-then-not-lacks-clause-err
returns-then-not-lacks-clause-err c = inr (
  refl,
  λ s.
      let p = with_paths (view c.args.value.now) (view c.in-Some.list.now) c.in-Some.ensures.found s in
      let e : false ≡ true = sym c.if-not-lacks.true ∙ c.lacks.ensures.1 p.0 in
      absurd (cc),
)

pub returns-in_err-patterns-clause-err : goal.returns-in_err-patterns-clause-err
returns-in_err-patterns-clause-err c =
    let p = err_from_is_err_and c.from_residual.result c.from_residual.ensures.1 in
    rw (p.1, p.2) (ill_again _ c.in_err-patterns.ensures.err
    (λ s.
    let m = (with_paths (view c.args.value.now) (view c.in-Some.list.now) c.in-Some.ensures.found s).1 in
    let same = c.in-Some.ensures.only m.0 m.1 in
    (m.2.0, subst (λ (x : Json). AreTextsOf IsPattern x m.2.0) same m.2.1)))
