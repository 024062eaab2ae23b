use Rattle.std.proofs.Common.{◌≡◌, ℕ, ◌<◌, ◌≤◌, ◌-◌, length, map, Some, slice_get}
use Rattle.document_parts.specs.RuleViews.{link_view, rule_view, side_view}
use Rattle.document_parts.specs.Rules.{ArtifactRule}
use Rattle.artifact_rules.specs.Rules.{Takes}
use Rattle.artifact_rules.specs.Views.{links_view}
use Rattle.artifact_rules.proofs.queue.taken_by.Given as goal

abbrev pub invariant-rules : goal.invariant-rules
invariant-rules l =
    (l.at ≤ length l.fn.rules)
    × ((i : ℕ) (r : ArtifactRule) → i < l.at → slice_get (map rule_view l.fn.rules) i ≡ Some r
    → Takes (side_view l.fn.judged.side) (link_view l.fn.judged.link.now) (links_view l.fn.judged.links.now) r l.fn.path → ⊥)

abbrev pub decreases-rules : goal.decreases-rules
decreases-rules l = length l.fn.rules - l.at
