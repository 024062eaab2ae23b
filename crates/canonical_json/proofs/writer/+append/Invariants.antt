use Rattle.std.proofs.Common.{◌≡◌, ◌∷◌, ◌++◌, length, ◌+◌, ◌*◌, ◌≤◌, vec_capacity}
use Rattle.canonical_json.specs.Json.{depth, items_depth, members_depth}
use Rattle.canonical_json.specs.steps.Writing.{GoesOn}
use Rattle.canonical_json.specs.View.{view, items_view, members_view}
use Rattle.canonical_json.proofs.Forms.{items_text, members_text}
use Rattle.canonical_json.proofs.Appending.{items_left, members_left}
use Rattle.canonical_json.proofs.writer.+append.Given as goal

abbrev pub invariant-list-items : goal.invariant-list-items
invariant-list-items l = record {
  front : GoesOn l.fn.out.items l.out.items;
  room : vec_capacity l.fn.out ≤ vec_capacity l.out;
  inside : items_depth (items_view l.rest) ≤ items_depth (items_view l.fn.values);
  text : l.out.items ++ items_left l.first l.rest ≡ l.fn.out.items ++ 91 ∷ items_text (items_view l.fn.values);
}

abbrev pub decreases-list-items : goal.decreases-list-items
decreases-list-items l = length l.rest

abbrev pub invariant-object-members : goal.invariant-object-members
invariant-object-members l = record {
  front : GoesOn l.fn.out.items l.out.items;
  room : vec_capacity l.fn.out ≤ vec_capacity l.out;
  inside : members_depth (members_view l.rest) ≤ members_depth (members_view l.fn.members);
  text : l.out.items ++ members_left l.first l.rest ≡ l.fn.out.items ++ 123 ∷ members_text (members_view l.fn.members);
}

abbrev pub decreases-object-members : goal.decreases-object-members
decreases-object-members l = length l.rest

abbrev pub decreases-value : goal.decreases-value
decreases-value l = 2 * depth (view l.value.now)

abbrev pub decreases-list : goal.decreases-list
decreases-list l = 2 * items_depth (items_view l.values.now) + 1

abbrev pub decreases-object : goal.decreases-object
decreases-object l = 2 * members_depth (members_view l.members.now) + 1
