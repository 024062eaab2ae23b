use Rattle.std.proofs.Common.{◌≡◌, ◌++◌, ◌+◌, ◌*◌, List, map, length}
use Rattle.canonical_json.specs.Json.{items_depth, members_depth}
use Rattle.canonical_json.specs.View.{items_view, members_view}
use Rattle.value_changes.specs.Views.{step_view, side_view, change_view}
use Rattle.value_changes.specs.steps.Turns.{Turn, merged, numbered}
use Rattle.value_changes.proofs.Covering.{PartsTold}
use Rattle.value_changes.proofs.Depths.{side_depth}
use Rattle.value_changes.proofs.walking.Walk.+walking.Given as goal

abbrev pub decreases-compare : goal.decreases-compare
decreases-compare l = 2 * side_depth (side_view l.before)

abbrev pub decreases-compare_items : goal.decreases-compare_items
decreases-compare_items l = 2 * items_depth (items_view l.before.now) + 1

abbrev pub decreases-compare_members : goal.decreases-compare_members
decreases-compare_members l = 2 * members_depth (members_view l.before.now) + 1

-- the changes of the items below the index are told
abbrev pub invariant-compare_items-items : goal.invariant-compare_items-items
invariant-compare_items-items l = record {
  place : l.self.place.items ≡ l.fn.self.place.items;
  told : PartsTold (numbered (items_view l.before) (items_view l.after) l.index) (map step_view l.fn.self.place.items) (map change_view l.fn.self.found.items) (map change_view l.self.found.items);
}

-- the changes of the names that were passed are told
abbrev pub invariant-compare_members-members : goal.invariant-compare_members-members
invariant-compare_members-members l = record {
  place : l.self.place.items ≡ l.fn.self.place.items;
  done : (done : List Turn) × (done ++ merged (members_view l.left) (members_view l.right) ≡ merged (members_view l.before) (members_view l.after))
      × PartsTold done (map step_view l.fn.self.place.items) (map change_view l.fn.self.found.items) (map change_view l.self.found.items);
}

abbrev pub decreases-compare_members-members : goal.decreases-compare_members-members
decreases-compare_members-members l = length (merged (members_view l.left) (members_view l.right))
