use Rattle.std.proofs.Common.{map, string_bytes, length}
use Rattle.canonical_json.specs.View.{items_view}
use Rattle.path_patterns.specs.Grammar.{IsHashPrefix}
use Rattle.document_parts.specs.Bodies.{IsTextOf}
use Rattle.document_parts.proofs.Growing.{ItemsGrow, ItemsLeft}
use Rattle.document_parts.proofs.scopes.prefix_texts_of.Given as goal

abbrev pub invariant-items : goal.invariant-items
invariant-items l = record {
  grow : ItemsGrow (IsTextOf IsHashPrefix) (items_view l.fn.items) (items_view l.rest) (map string_bytes l.prefixes.items);
  left : ItemsLeft (IsTextOf IsHashPrefix) (items_view l.fn.items) (items_view l.rest);
}

abbrev pub decreases-items : goal.decreases-items
decreases-items l = length l.rest
