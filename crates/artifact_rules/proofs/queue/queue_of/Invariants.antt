use Rattle.std.proofs.Common.{length, map, ◌++◌}
use Rattle.document_parts.specs.RuleViews.{link_view, rule_view, side_view}
use Rattle.artifact_rules.specs.Views.{links_view}
use Rattle.artifact_rules.specs.steps.Queue.{IsQueue, Queue, queue_view}
use Rattle.artifact_rules.proofs.queue.queue_of.Given as goal

-- what the rest is queued as, after what is queued, is what all rows are
abbrev pub invariant-rows : goal.invariant-rows
invariant-rows l =
    let Queued = IsQueue (side_view l.judged.side) (link_view l.judged.link.now) (links_view l.judged.links.now) (map rule_view l.fn.rules) in
    (more : Queue) → Queued (map (λ r. (r.0, r.1.0)) l.rest) more
    → Queued (map (λ r. (r.0, r.1.0)) l.initial.rest) (queue_view l.queue.items ++ more)

abbrev pub decreases-rows : goal.decreases-rows
decreases-rows l = length l.rest
