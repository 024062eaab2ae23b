use Rattle.std.proofs.Common.{◌≡◌, ℕ, List, map, false, true, Ok, inr, sym, subst, ◌∙◌}
use Rattle.std.specs.List.{zip}
use Rattle.std.proofs.lemmas.Result.{err_from_is_err_and}
use Rattle.artifact_rules.specs.Views.{links_view}
use Rattle.denials.specs.Numbers as no
use Rattle.denials.specs.Orders.{check, fails, holds, pass}
use Rattle.document_parts.specs.Views.{step_view}
use Rattle.document_parts.specs.declared.documents.Step.{Step}
use Rattle.layouts.specs.Faults.{IsDeniedBy}
use Rattle.layouts.specs.Layouts.{HasProduct, all, step_rules}
use Rattle.layouts.proofs.Judged.{denied_first}
use Rattle.layouts.proofs.checking.check_chosen.Goals as goal

pub returns-in_err-check_rules : goal.returns-in_err-check_rules
returns-in_err-check_rules c =
    let p = err_from_is_err_and c.from_residual.result c.from_residual.ensures.1 in
    let links = links_view c.args.links.now in
    rw (p.1, p.2) (denied_first (all (step_rules links) (zip (map step_view c.args.layout.now.steps.items) links)) (check no.product_mismatch (HasProduct links c.args.step.now c.args.product.now c.args.digest.now.0)) _
    (subst (λ (ss : List Step). IsDeniedBy (all (step_rules links) (zip (map step_view ss) links)) c.in_err-check_rules.field-0.0) c.deref.ensures.value c.in_err-check_rules.ensures))

pub returns-then-has_product : goal.returns-then-has_product
returns-then-has_product c =
    let links = links_view c.args.links.now in
    let first = subst (λ (ss : List Step). all (step_rules links) (zip (map step_view ss) links) (Ok tt)) c.deref.ensures.value c.in_ok-check_rules.ensures in
    let has = subst (λ (s : List ℕ). HasProduct links s c.args.product.now c.args.digest.now.0) c.as_str.ensures.value (c.has_product.ensures.0 c.if-has_product.true) in
    pass first (holds has)

pub returns-else-has_product : goal.returns-else-has_product
returns-else-has_product c =
    let links = links_view c.args.links.now in
    let first = subst (λ (ss : List Step). all (step_rules links) (zip (map step_view ss) links) (Ok tt)) c.deref.ensures.value c.in_ok-check_rules.ensures in
    inr (pass first (fails (λ h.
    let has = c.has_product.ensures.1 (subst (λ (s : List ℕ). HasProduct links s c.args.product.now c.args.digest.now.0) (sym c.as_str.ensures.value) h) in
    let both : false ≡ true = sym c.if-has_product.false ∙ has in
    absurd (cc))))
