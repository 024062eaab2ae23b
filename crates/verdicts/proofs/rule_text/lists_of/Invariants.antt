use Rattle.std.proofs.Common.{length}
use Rattle.canonical_json.specs.View.{items_view}
use Rattle.document_parts.specs.Members.{IsArray, IsText}
use Rattle.document_parts.proofs.Growing.{ItemsGrow, ItemsLeft}
use Rattle.verdicts.specs.RuleCase.{lists_view}
use Rattle.verdicts.proofs.rule_text.lists_of.Given as goal

abbrev pub invariant-items : goal.invariant-items
invariant-items l = record {
  grow : ItemsGrow (IsArray IsText) (items_view l.fn.items) (items_view l.rest) (lists_view l.lists.items);
  left : ItemsLeft (IsArray IsText) (items_view l.fn.items) (items_view l.rest);
}

abbrev pub decreases-items : goal.decreases-items
decreases-items l = length l.rest
