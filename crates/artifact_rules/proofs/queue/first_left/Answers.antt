use Rattle.std.proofs.Common.{rules, ℕ, List, ◌<◌, ◌≤◌, ◌+◌, length}
use Rattle.document_parts.specs.RuleViews.{rule_view}
use Rattle.artifact_rules.specs.steps.Queue.{IsLeft, queue_view}
use Rattle.artifact_rules.specs.declared.queue.Queued.{Queued}
use Rattle.artifact_rules.proofs.Places.{item_at, one_more, past_all}
use Rattle.artifact_rules.proofs.queue.first_left.Goals as goal
use Rattle.artifact_rules.proofs.queue.first_left.Goals.{else-at-queued-via-then-at-queued+else-is_asked, else-at-queued-via-else-at-queued}

pub queue-preserved : goal.queue-preserved
queue-preserved c =
    let P = λ (q : List ℕ × ℕ). IsLeft c.args.at (rule_view c.args.rule.now) q in
    let below : c.queue.place < length c.args.queue.now = search rules in
    let x = c.index-queue-place.result in
    let here = item_at (λ (q : Queued). (q.path.now, q.taken)) c.args.queue.now c.queue.place x below c.index-queue-place.is in
    let more : c.queue.place + 1 ≤ length c.args.queue.now = search rules in
    let other : P (x.path.now, x.taken) → ⊥ =
    elim c.else-at-queued.branch [
      | else-at-queued-via-then-at-queued+else-is_asked w ↦ λ p. let yes = p.1 in search rules
      | else-at-queued-via-else-at-queued w ↦ λ p. let yes = p.0 in search rules
    ] in
    (more, one_more P (queue_view c.args.queue.now) c.queue.place (x.path.now, x.taken) here c.queue.invariant.1 other)

pub returns : goal.returns
returns c =
    let P = λ (q : List ℕ × ℕ). IsLeft c.args.at (rule_view c.args.rule.now) q in
    let all : length c.args.queue.now ≤ c.queue.place = search rules in
    past_all (λ (q : Queued). (q.path.now, q.taken)) P c.args.queue.now c.queue.place all c.queue.invariant.1
