use Rattle.std.proofs.Common.{length}
use Rattle.canonical_json.specs.View.{items_view}
use Rattle.keys_roles.specs.Views.{entries_view}
use Rattle.document_parts.specs.Parts.{IsEntry}
use Rattle.document_parts.proofs.Growing.{ItemsGrow, ItemsLeft}
use Rattle.metadata.proofs.envelope.signatures_of.Given as goal

abbrev pub invariant-items : goal.invariant-items
invariant-items l = record {
  grow : ItemsGrow IsEntry (items_view l.fn.items) (items_view l.rest) (entries_view l.signatures.items);
  left : ItemsLeft IsEntry (items_view l.fn.items) (items_view l.rest);
}

abbrev pub decreases-items : goal.decreases-items
decreases-items l = length l.rest
