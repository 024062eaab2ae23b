use Rattle.std.proofs.Common.{length}
use Rattle.canonical_json.specs.Json.{EachItem}
use Rattle.canonical_json.specs.Spelling.{IsSound}
use Rattle.canonical_json.specs.View.{items_view}
use Rattle.document_parts.specs.Bodies.{IsStep}
use Rattle.document_parts.specs.steps.Tables.{spelled_table}
use Rattle.layout_files.specs.steps.Spelled.{spelled_steps}
use Rattle.document_parts.proofs.Growing.{ItemsGrow, ItemsLeft}
use Rattle.layout_files.proofs.steps.steps_of.Given as goal

abbrev pub invariant-items : goal.invariant-items
invariant-items l = record {
  grow : ItemsGrow (IsStep (spelled_table l.keys)) (items_view l.fn.items) (items_view l.rest) (spelled_steps l.steps.items);
  left : ItemsLeft (IsStep (spelled_table l.keys)) (items_view l.fn.items) (items_view l.rest);
  proper : EachItem IsSound (items_view l.rest);
}

abbrev pub decreases-items : goal.decreases-items
decreases-items l = length l.rest
