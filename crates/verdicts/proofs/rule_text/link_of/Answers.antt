use Rattle.std.proofs.Common.{rules, ◌≡◌, ◌∙◌, sym, subst, inr}
use Rattle.std.proofs.lemmas.Result.{err_from_is_err_and}
use Rattle.canonical_json.specs.View.{view}
use Rattle.document_parts.specs.Bodies.{AreArtifacts}
use Rattle.verdicts.specs.RuleCase.{IsLinkOf}
use Rattle.verdicts.proofs.Parts.{by_shape}
use Rattle.verdicts.proofs.rule_text.link_of.Goals as goal

pub returns-in_default-clause-fault : goal.returns-in_default-clause-fault
returns-in_default-clause-fault c = inr (λ l is. c.in_default.ensures is.before is.after is.members)

pub returns-in_err-products-clause-fault : goal.returns-in_err-products-clause-fault
returns-in_err-products-clause-fault c =
    let p = err_from_is_err_and c.from_residual-in_err-products.result c.from_residual-in_err-products.ensures.1 in
    rw (p.1, p.2) (by_shape (IsLinkOf c.args.step.now (view c.args.value.now)) _ _ c.in_err-products.ensures.err (λ l is.
    let both = sym is.members ∙ c.in-Some.ensures in
    let same : is.after ≡ view c.in-Some.after.now = cc in
    (l.products, subst (λ v. AreArtifacts v l.products) same is.products)))

pub returns-clause-ok : goal.returns-clause-ok
returns-clause-ok c =
    record {
      before = view c.in-Some.before.now;
      after = view c.in-Some.after.now;
      members = c.in-Some.ensures;
      name = search rules;
      named = search rules;
      materials = c.in_ok-materials.ensures.ok;
      products = c.in_ok-products.ensures.ok;
    }
