use Rattle.std.proofs.Common.{length}
use Rattle.canonical_json.specs.Json.{Json, HasMember, IsAmong}
use Rattle.canonical_json.specs.View.{view, members_view}
use Rattle.document_parts.proofs.members.first_named.Given as goal

abbrev pub invariant-members : goal.invariant-members
invariant-members l = record {
  ahead : (x : Json) → HasMember (view l.value) l.name x → IsAmong l.name x (members_view l.rest);
  back : (x : Json) → IsAmong l.name x (members_view l.rest) → HasMember (view l.value) l.name x;
}

abbrev pub decreases-members : goal.decreases-members
decreases-members l = length l.rest
