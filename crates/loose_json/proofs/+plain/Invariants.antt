use Rattle.std.proofs.Common.{◌+◌, ◌*◌, ◌≤◌, length}
use Rattle.canonical_json.specs.Json.{EachItem, EachMember}
use Rattle.canonical_json.specs.Spelling.{IsSound}
use Rattle.canonical_json.specs.View.{items_view, members_view}
use Rattle.serde_json.specs.Data.{depth, items_depth, members_depth}
use Rattle.serde_json.specs.View.{view, items_view as loose_items, members_view as loose_members}
use Rattle.loose_json.proofs.Plain.{AllItems, AllMembers, AllNames}
use Rattle.loose_json.proofs.+plain.Given as goal

abbrev pub decreases-plain_value : goal.decreases-plain_value
decreases-plain_value l = 2 * depth (view l.loose.now)

abbrev pub decreases-list : goal.decreases-list
decreases-list l = 2 * items_depth (loose_items l.items.now) + 1

abbrev pub decreases-object : goal.decreases-object
decreases-object l = 2 * members_depth (loose_members l.members.now.entries) + 1

abbrev pub invariant-list-items : goal.invariant-list-items
invariant-list-items l = record {
  all : AllItems l.fn.items l.found.items l.rest;
  sound : EachItem IsSound (items_view l.found.items);
  inside : items_depth (loose_items l.rest) ≤ items_depth (loose_items l.fn.items);
}

abbrev pub decreases-list-items : goal.decreases-list-items
decreases-list-items l = length l.rest

abbrev pub invariant-object-loop-name : goal.invariant-object-loop-name
invariant-object-loop-name l = record {
  all : AllMembers l.fn.members.entries l.found.items l.name-iterator;
  named : AllNames l.fn.members.entries l.found.items l.name-iterator;
  sound : EachMember IsSound (members_view l.found.items);
  inside : members_depth (loose_members l.name-iterator) ≤ members_depth (loose_members l.fn.members.entries);
}
