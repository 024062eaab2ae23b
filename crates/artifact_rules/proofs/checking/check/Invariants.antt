use Rattle.std.proofs.Common.{ℕ, ◌<◌, ◌≤◌, ◌-◌, length, map}
use Rattle.document_parts.specs.RuleViews.{link_view, rule_view, side_view}
use Rattle.artifact_rules.specs.Rules.{FailsAt}
use Rattle.artifact_rules.specs.Views.{links_view}
use Rattle.artifact_rules.proofs.checking.check.Given as goal

abbrev pub invariant-rules : goal.invariant-rules
invariant-rules l =
    (l.at ≤ length l.fn.rules)
    × ((i : ℕ) → i < l.at → FailsAt (side_view l.fn.side) (link_view l.fn.link) (links_view l.fn.links) (map rule_view l.fn.rules) i → ⊥)

abbrev pub decreases-rules : goal.decreases-rules
decreases-rules l = length l.fn.rules - l.at
