use Rattle.std.proofs.Common.{length}
use Rattle.canonical_json.specs.View.{items_view}
use Rattle.path_patterns.specs.Grammar.{IsTargetPath}
use Rattle.document_parts.specs.Bodies.{IsTextOf}
use Rattle.document_parts.proofs.Growing.{ItemsGrow, ItemsLeft}
use Rattle.metadata.proofs.references.paths_of.Given as goal

abbrev pub invariant-items : goal.invariant-items
invariant-items l = record {
  grow : ItemsGrow (IsTextOf IsTargetPath) (items_view l.fn.items) (items_view l.rest) l.paths.items;
  left : ItemsLeft (IsTextOf IsTargetPath) (items_view l.fn.items) (items_view l.rest);
}

abbrev pub decreases-items : goal.decreases-items
decreases-items l = length l.rest
