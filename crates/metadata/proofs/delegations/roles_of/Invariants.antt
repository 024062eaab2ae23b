use Rattle.std.proofs.Common.{length}
use Rattle.canonical_json.specs.Json.{EachItem}
use Rattle.canonical_json.specs.Spelling.{IsSound}
use Rattle.canonical_json.specs.View.{items_view}
use Rattle.document_parts.specs.Bodies.{IsDelegation}
use Rattle.document_parts.specs.steps.Tables.{spelled_table}
use Rattle.metadata.specs.steps.Spelled.{spelled_list}
use Rattle.document_parts.proofs.Growing.{ItemsGrow, ItemsLeft}
use Rattle.metadata.proofs.delegations.roles_of.Given as goal

abbrev pub invariant-items : goal.invariant-items
invariant-items l = record {
  grow : ItemsGrow (IsDelegation (spelled_table l.keys)) (items_view l.fn.items) (items_view l.rest) (spelled_list l.roles.items);
  left : ItemsLeft (IsDelegation (spelled_table l.keys)) (items_view l.fn.items) (items_view l.rest);
  proper : EachItem IsSound (items_view l.rest);
}

abbrev pub decreases-items : goal.decreases-items
decreases-items l = length l.rest
