use Rattle.std.proofs.Common.{List, map, Ok, subst}
use Rattle.std.proofs.lemmas.Result.{err_from_is_err_and}
use Rattle.artifact_rules.specs.Views.{links_view}
use Rattle.document_parts.specs.RuleViews.{link_view, rule_view}
use Rattle.document_parts.specs.Rules.{materials, products}
use Rattle.document_parts.specs.declared.rules.Rule.{Rule}
use Rattle.layouts.specs.Faults.{IsDeniedBy, IsJudged}
use Rattle.layouts.specs.Layouts.{ruled}
use Rattle.layouts.proofs.Judged.{denied_first, judged_next}
use Rattle.layouts.proofs.ruling.check_step.Goals as goal

pub returns-in_err-check_side : goal.returns-in_err-check_side
returns-in_err-check_side c =
    let p = err_from_is_err_and c.from_residual.result c.from_residual.ensures.1 in
    let links = links_view c.args.links.now in
    let link = link_view c.args.link.now in
    rw (p.1, p.2) (denied_first (ruled links materials link (map rule_view c.args.step.now.materials.items)) (ruled links products link (map rule_view c.args.step.now.products.items)) _
    (subst (λ (rs : List Rule). IsDeniedBy (ruled links materials link (map rule_view rs)) c.in_err-check_side.field-0.0) c.deref.ensures.value c.in_err-check_side.ensures))

pub returns : goal.returns
returns c =
    let links = links_view c.args.links.now in
    let link = link_view c.args.link.now in
    judged_next (ruled links materials link (map rule_view c.args.step.now.materials.items)) (ruled links products link (map rule_view c.args.step.now.products.items)) c.check_side-2.result
    (subst (λ (rs : List Rule). ruled links materials link (map rule_view rs) (Ok tt)) c.deref.ensures.value c.in_ok-check_side.ensures)
    (subst (λ (rs : List Rule). IsJudged (ruled links products link (map rule_view rs)) c.check_side-2.result) c.deref-2.ensures.value c.check_side-2.ensures)
