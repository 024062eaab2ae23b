use Rattle.std.proofs.Common.{length}
use Rattle.canonical_json.specs.View.{items_view}
use Rattle.drafting.specs.Roots.{IsItem}
use Rattle.drafting.proofs.named.is_item.Given as goal

abbrev pub invariant-items : goal.invariant-items
invariant-items l = record {
  ahead : IsItem l.id (items_view l.fn.items) → IsItem l.id (items_view l.rest);
  back : IsItem l.id (items_view l.rest) → IsItem l.id (items_view l.fn.items);
}

abbrev pub decreases-items : goal.decreases-items
decreases-items l = length l.rest
