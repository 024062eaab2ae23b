use Rattle.std.proofs.Common.{map, length}
use Rattle.canonical_json.specs.View.{items_view}
use Rattle.document_parts.specs.Bodies.{IsListedRule}
use Rattle.document_parts.specs.RuleViews.{rule_view}
use Rattle.document_parts.proofs.Growing.{ItemsGrow, ItemsLeft}
use Rattle.layout_files.proofs.rule_lists.rules_of.Given as goal

abbrev pub invariant-items : goal.invariant-items
invariant-items l = record {
  grow : ItemsGrow IsListedRule (items_view l.fn.items) (items_view l.rest) (map rule_view l.rules.items);
  left : ItemsLeft IsListedRule (items_view l.fn.items) (items_view l.rest);
}

abbrev pub decreases-items : goal.decreases-items
decreases-items l = length l.rest
