use Rattle.std.proofs.Common.{◌≡◌, ◌++◌, length, map}
use Rattle.artifact_rules.specs.Views.{links_view}
use Rattle.document_parts.specs.RuleViews.{link_view}
use Rattle.verdicts.proofs.ruling.lent.Given as goal

abbrev pub invariant-links : goal.invariant-links
invariant-links l = map link_view l.fn.links ≡ links_view l.all.items ++ map link_view l.rest

abbrev pub decreases-links : goal.decreases-links
decreases-links l = length l.rest
