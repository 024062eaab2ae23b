use Rattle.std.proofs.Common.{◌≡◌, ◌-◌, ◌≤◌, length, map}
use Rattle.document_parts.specs.Links.{Link}
use Rattle.document_parts.specs.RuleViews.{link_view}
use Rattle.artifact_rules.proofs.Places.{NoneBefore}
use Rattle.verdicts.proofs.rule_text.place_of.Given as goal

-- no link before this place is of the step
abbrev pub invariant-links : goal.invariant-links
invariant-links l = (l.at ≤ length l.fn.links) × NoneBefore (λ (k : Link). l.fn.step ≡ k.name) (map link_view l.fn.links) l.at

abbrev pub decreases-links : goal.decreases-links
decreases-links l = length l.fn.links - l.at
