use Rattle.std.proofs.Common.{rules, ◌≡◌, ℕ, List, ◌<◌, length, Some, refl, ap, ◌∙◌, arith}
use Rattle.std.proofs.lemmas.List.{length-map}
use Rattle.document_parts.specs.Rules.{disallow}
use Rattle.document_parts.specs.RuleViews.{rule_view}
use Rattle.artifact_rules.specs.steps.Queue.{FirstLeft, queue_view}
use Rattle.artifact_rules.specs.declared.queue.Queued.{Queued}
use Rattle.artifact_rules.proofs.Places.{item_at}
use Rattle.artifact_rules.proofs.checking.judge.Goals as goal

pub returns-in-Disallow-Some-clause-fault : goal.returns-in-Disallow-Some-clause-fault
returns-in-Disallow-Some-clause-fault c =
    let place = c.in-Disallow-Some.place in
    let x = c.index-queue-place.result in
    let first : FirstLeft (queue_view c.args.queue.now) c.args.at (rule_view c.args.rule.now) place = search rules in
    let rule : rule_view c.args.rule.now ≡ disallow c.in-Disallow-Some.field-0-0 = search rules in
    let long : length (queue_view c.args.queue.now) ≡ length c.args.queue.now = length-map c.args.queue.now (λ (q : Queued). (q.path.now, q.taken)) in
    let below : place < length c.args.queue.now = omega (arith, long, first.below) in
    let text : x.path.now ≡ c.as_str.result.now = search rules in
    let here = item_at (λ (q : Queued). (q.path.now, q.taken)) c.args.queue.now place x below c.index-queue-place.is in
    (refl, record { pattern = c.in-Disallow-Some.field-0-0; place = place; taken = x.taken; rule = rule; first = first; path_at = here ∙ ap (λ (p : List ℕ). Some (p, x.taken)) text })
