use Rattle.std.proofs.Common.{◌≡◌, ◌+◌, ◌-◌, ◌*◌, None, option_map, length}
use Rattle.canonical_json.specs.Faults.{first_fault, item_marks, member_marks}
use Rattle.canonical_json.specs.Json.{EachItem}
use Rattle.canonical_json.specs.Spelling.{IsOfCode, MembersOfCode}
use Rattle.canonical_json.specs.View.{items_view, members_view}
use Rattle.canonical_json.proofs.write_faults.+faults.Given as goal

abbrev pub invariant-items_fault-items : goal.invariant-items_fault-items
invariant-items_fault-items l = record {
  first : first_fault (item_marks l.outer (items_view l.fn.values)) ≡ first_fault (item_marks l.outer (items_view l.rest));
  of_code : EachItem IsOfCode (items_view l.rest) → EachItem IsOfCode (items_view l.fn.values);
}

abbrev pub decreases-items_fault-items : goal.decreases-items_fault-items
decreases-items_fault-items l = length l.rest

abbrev pub invariant-members_fault-members : goal.invariant-members_fault-members
invariant-members_fault-members l = record {
  first : first_fault (member_marks l.outer None (members_view l.fn.members)) ≡ first_fault (member_marks l.outer (option_map (λ b. b.now) l.before) (members_view l.rest));
  of_code : MembersOfCode (members_view l.rest) → MembersOfCode (members_view l.fn.members);
}

abbrev pub decreases-members_fault-members : goal.decreases-members_fault-members
decreases-members_fault-members l = length l.rest

abbrev pub decreases-value_fault : goal.decreases-value_fault
decreases-value_fault l = 2 * (100 - l.outer)

abbrev pub decreases-items_fault : goal.decreases-items_fault
decreases-items_fault l = 2 * (100 - l.outer) + 1

abbrev pub decreases-members_fault : goal.decreases-members_fault
decreases-members_fault l = 2 * (100 - l.outer) + 1
