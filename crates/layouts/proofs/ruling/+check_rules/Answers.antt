use Rattle.std.proofs.Common.{map}
use Rattle.std.specs.List.{zip}
use Rattle.std.proofs.lemmas.Result.{err_from_is_err_and}
use Rattle.artifact_rules.specs.Views.{links_view}
use Rattle.denials.specs.Orders.{given}
use Rattle.document_parts.specs.RuleViews.{link_view}
use Rattle.document_parts.specs.Views.{step_view}
use Rattle.layouts.specs.Layouts.{all, step_rules}
use Rattle.layouts.proofs.Judged.{denied_first, judged_next}
use Rattle.layouts.proofs.Lists.{none_left}
use Rattle.layouts.proofs.ruling.+check_rules.Goals as goal

pub returns-in_default : goal.returns-in_default
returns-in_default t c = rw (none_left c.args.steps.now c.in_default.ensures.cases) given

pub returns-in_default-split_first : goal.returns-in_default-split_first
returns-in_default-split_first t c = rw (c.in-Some.ensures.cases.0, none_left c.args.own.now c.in_default-split_first.ensures.cases) given

pub returns-in_err-check_step : goal.returns-in_err-check_step
returns-in_err-check_step t c =
    let p = err_from_is_err_and c.from_residual.result c.from_residual.ensures.1 in
    let links = links_view c.args.links.now in
    rw (p.1, p.2, c.in-Some.ensures.cases.0, c.in-Some-split_first.ensures.cases.0)
    (denied_first (step_rules links (step_view c.in-Some.step.now, link_view c.in-Some-split_first.link.now.now))
    (all (step_rules links) (zip (map step_view c.in-Some.later.now) (links_view c.in-Some-split_first.behind.now))) _ c.in_err-check_step.ensures)

pub returns : goal.returns
returns t c =
    let links = links_view c.args.links.now in
    rw (c.in-Some.ensures.cases.0, c.in-Some-split_first.ensures.cases.0)
    (judged_next (step_rules links (step_view c.in-Some.step.now, link_view c.in-Some-split_first.link.now.now))
    (all (step_rules links) (zip (map step_view c.in-Some.later.now) (links_view c.in-Some-split_first.behind.now))) c.check_rules.result c.in_ok-check_step.ensures c.check_rules.ensures)
