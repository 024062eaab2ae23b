use Rattle.std.proofs.Common.{length}
use Rattle.canonical_json.specs.Json.{IsAmong, text}
use Rattle.canonical_json.specs.View.{members_view}
use Rattle.drafting.proofs.texts.some_text.Given as goal

abbrev pub invariant-members : goal.invariant-members
invariant-members l = record {
  ahead : IsAmong l.name (text l.said) (members_view l.fn.members) → IsAmong l.name (text l.said) (members_view l.rest);
  back : IsAmong l.name (text l.said) (members_view l.rest) → IsAmong l.name (text l.said) (members_view l.fn.members);
}

abbrev pub decreases-members : goal.decreases-members
decreases-members l = length l.rest
