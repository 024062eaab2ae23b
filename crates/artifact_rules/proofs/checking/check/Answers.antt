use Rattle.std.proofs.Common.{rules, ◌≡◌, ◌+◌, List, ◌<◌, ◌≤◌, length, map, refl, subst, arith}
use Rattle.std.proofs.lemmas.List.{length-map}
use Rattle.std.proofs.lemmas.Option.{slice_get_within}
use Rattle.document_parts.specs.Links.{side_of}
use Rattle.document_parts.specs.RuleViews.{link_view, rule_view, side_view}
use Rattle.artifact_rules.specs.Faults.{IsRuleFault}
use Rattle.artifact_rules.specs.Rules.{FailsAt}
use Rattle.artifact_rules.specs.Views.{links_view}
use Rattle.artifact_rules.specs.declared.queue.Queued.{Queued}
use Rattle.artifact_rules.specs.steps.Judging.{IsFaultAt, IsPassed}
use Rattle.artifact_rules.specs.steps.Queue.{IsQueue, queue_view}
use Rattle.artifact_rules.proofs.Faulting.{faulted}
use Rattle.artifact_rules.proofs.Judging.{passed}
use Rattle.artifact_rules.proofs.Ordered.{side_in_order}
use Rattle.artifact_rules.proofs.Places.{item_at, one_number_more}
use Rattle.artifact_rules.proofs.checking.check.Goals as goal

pub returns-in_err-judge-clause-fault : goal.returns-in_err-judge-clause-fault
returns-in_err-judge-clause-fault c =
    let side = side_view c.args.side in
    let link = link_view c.args.link.now in
    let links = links_view c.args.links.now in
    let rs = map rule_view c.args.rules.now in
    let queue = queue_view c.in-Ok.queue.items in
    let queued : IsQueue side link links rs (side_of side link) queue = search rules in
    let below : c.rules.at < length c.args.rules.now = search rules in
    let long : length rs ≡ length c.args.rules.now = length-map c.args.rules.now rule_view in
    let few : c.rules.at ≤ length rs = omega (arith, below, long) in
    let here = item_at rule_view c.args.rules.now c.rules.at c.index-rules-at.result below c.index-rules-at.is in
    let fault =
    subst (λ (q : List Queued). IsFaultAt (queue_view q) c.rules.at (rule_view c.index-rules-at.result) c.in_err-judge.field-0.0) c.deref.ensures.value c.in_err-judge.ensures.fault in
    let known : IsRuleFault side link links rs c.in_err-judge.field-0.0 =
    faulted side link links rs queue (side_of side link) refl (side_in_order c.args.side c.args.link.now) queued c.rules.at few c.rules.invariant.1 (rule_view c.index-rules-at.result) here c.in_err-judge.field-0.0 fault in
    search rules

pub rules-preserved : goal.rules-preserved
rules-preserved c =
    let side = side_view c.args.side in
    let link = link_view c.args.link.now in
    let links = links_view c.args.links.now in
    let rs = map rule_view c.args.rules.now in
    let queue = queue_view c.in-Ok.queue.items in
    let queued : IsQueue side link links rs (side_of side link) queue = search rules in
    let below : c.rules.at < length c.args.rules.now = search rules in
    let long : length rs ≡ length c.args.rules.now = length-map c.args.rules.now rule_view in
    let few : c.rules.at ≤ length rs = omega (arith, below, long) in
    let here = item_at rule_view c.args.rules.now c.rules.at c.index-rules-at.result below c.index-rules-at.is in
    let pass = subst (λ (q : List Queued). IsPassed (queue_view q) c.rules.at (rule_view c.index-rules-at.result)) c.deref.ensures.value c.in_ok-judge.ensures.ok in
    let holds = passed side link links rs queue (side_of side link) refl (side_in_order c.args.side c.args.link.now) queued c.rules.at few (rule_view c.index-rules-at.result) here pass in
    let more : c.rules.at + 1 ≤ length c.args.rules.now = search rules in
    (more, one_number_more (FailsAt side link links rs) c.rules.at c.rules.invariant.1 holds)

pub returns-clause-hold : goal.returns-clause-hold
returns-clause-hold c = λ j failed.
    let rs = map rule_view c.args.rules.now in
    let all : length c.args.rules.now ≤ c.rules.at = search rules in
    let long : length rs ≡ length c.args.rules.now = length-map c.args.rules.now rule_view in
    let within : j < length rs = slice_get_within rs j failed.0 failed.1 in
    c.rules.invariant.1 j (omega (arith, all, long, within)) failed
