use Rattle.std.proofs.Common.{◌∷◌, [], List, map, sym, ap, subst, ◌∙◌}
use Rattle.std.proofs.lemmas.List.{map-append}
use Rattle.std.proofs.lemmas.Result.{err_from_is_err_and}
use Rattle.artifact_rules.specs.Views.{links_view}
use Rattle.denials.specs.Numbers as no
use Rattle.denials.specs.Orders.{check, holds}
use Rattle.keys_roles.specs.Views.{table_view}
use Rattle.document_parts.specs.Links.{Link}
use Rattle.document_parts.specs.RuleViews.{link_view}
use Rattle.document_parts.specs.Views.{step_view}
use Rattle.layouts.specs.Layouts.{AllAgree, EnoughKeys}
use Rattle.layouts.specs.Views.{files_view}
use Rattle.layouts.specs.steps.Gathering.{IsEnough}
use Rattle.layouts.proofs.Judged.{agree_next, agreed, denied_in, passed}
use Rattle.layouts.proofs.Lists.{Paired, none_left, pair_done, pair_next}
use Rattle.layouts.proofs.gathering.gather_all.Goals as goal

pub returns-in_err-one-clause-err : goal.returns-in_err-one-clause-err
returns-in_err-one-clause-err c =
    let p = err_from_is_err_and c.from_residual.result c.from_residual.ensures.1 in
    rw (p.1, p.2) (denied_in (λ s. check no.step_threshold (EnoughKeys (table_view c.args.keys.now) (files_view c.args.links.now) s)) (map step_view c.args.steps.now) (map step_view c.steps.rest.now) (map step_view c.in-Some.later.now)
    (step_view c.in-Some.step.now) _ (ap (map step_view) c.in-Some.ensures.cases.0) c.steps.invariant.whole c.in_err-one.ensures.err)

pub steps-preserved : goal.steps-preserved
steps-preserved c =
    let keys = table_view c.args.keys.now in
    let files = files_view c.args.links.now in
    let whole = map step_view c.args.steps.now in
    let rest = map step_view c.steps.rest.now in
    let later = map step_view c.in-Some.later.now in
    let step = step_view c.in-Some.step.now in
    let link = link_view c.in_ok-one.one.link.now in
    let at = ap (map step_view) c.in-Some.ensures.cases.0 in
    let own = c.in_ok-one.ensures in
    let items = ap links_view c.in_ok-push.ensures.items ∙ map-append (λ l. link_view l.now) c.steps.found.items (c.in_ok-one.one.link ∷ []) in
    let paired = pair_next (IsEnough keys files) whole rest later step (links_view c.steps.found.items) link at own.link c.steps.invariant.paired in
    record {
      paired = subst (λ (ls : List Link). Paired (IsEnough keys files) whole later ls) (sym items) paired;
      agree = agree_next (AllAgree keys files) whole rest later step c.steps.agree c.in_ok-one.one.agree c.both-agree.result at c.both-agree.ensures own.agree c.steps.invariant.agree;
      whole = passed (λ s. check no.step_threshold (EnoughKeys keys files s)) whole rest later step at (holds own.link.0) c.steps.invariant.whole;
    }

pub returns-clause-links : goal.returns-clause-links
returns-clause-links c =
    pair_done (IsEnough (table_view c.args.keys.now) (files_view c.args.links.now)) (map step_view c.args.steps.now) (map step_view c.steps.rest.now) (links_view c.steps.found.items)
    (ap (map step_view) (none_left c.steps.rest.now c.in_default.ensures.cases)) c.steps.invariant.paired

pub returns-clause-agree : goal.returns-clause-agree
returns-clause-agree c =
    agreed (AllAgree (table_view c.args.keys.now) (files_view c.args.links.now)) (map step_view c.args.steps.now) (map step_view c.steps.rest.now) c.steps.agree
    (ap (map step_view) (none_left c.steps.rest.now c.in_default.ensures.cases)) c.steps.invariant.agree
