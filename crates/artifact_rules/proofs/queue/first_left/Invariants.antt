use Rattle.std.proofs.Common.{◌≡◌, ℕ, List, ◌<◌, ◌≤◌, ◌-◌, length, Some, slice_get}
use Rattle.document_parts.specs.RuleViews.{rule_view}
use Rattle.artifact_rules.specs.steps.Queue.{IsLeft, queue_view}
use Rattle.artifact_rules.proofs.queue.first_left.Given as goal

abbrev pub invariant-queue : goal.invariant-queue
invariant-queue l =
    (l.place ≤ length l.fn.queue)
    × ((k : ℕ) (q : List ℕ × ℕ) → k < l.place → slice_get (queue_view l.fn.queue) k ≡ Some q → IsLeft l.fn.at (rule_view l.fn.rule) q → ⊥)

abbrev pub decreases-queue : goal.decreases-queue
decreases-queue l = length l.fn.queue - l.place
