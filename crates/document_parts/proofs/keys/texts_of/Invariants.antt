use Rattle.std.proofs.Common.{length}
use Rattle.canonical_json.specs.View.{items_view}
use Rattle.document_parts.specs.Members.{IsText}
use Rattle.document_parts.specs.steps.Tables.{texts_view}
use Rattle.document_parts.proofs.Growing.{ItemsGrow, ItemsLeft}
use Rattle.document_parts.proofs.keys.texts_of.Given as goal

abbrev pub invariant-items : goal.invariant-items
invariant-items l = record {
  grow : ItemsGrow IsText (items_view l.fn.items) (items_view l.rest) (texts_view l.texts.items);
  left : ItemsLeft IsText (items_view l.fn.items) (items_view l.rest);
}

abbrev pub decreases-items : goal.decreases-items
decreases-items l = length l.rest
