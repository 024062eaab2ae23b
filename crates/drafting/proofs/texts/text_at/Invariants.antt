use Rattle.std.proofs.Common.{ℕ, List, length}
use Rattle.canonical_json.specs.Json.{IsAmong, text}
use Rattle.canonical_json.specs.View.{members_view}
use Rattle.drafting.proofs.texts.text_at.Given as goal

abbrev pub invariant-members : goal.invariant-members
invariant-members l = record {
  back : (t : List ℕ) → IsAmong l.name (text t) (members_view l.rest) → IsAmong l.name (text t) (members_view l.fn.members);
  ahead : (t : List ℕ) → IsAmong l.name (text t) (members_view l.fn.members) → IsAmong l.name (text t) (members_view l.rest);
}

abbrev pub decreases-members : goal.decreases-members
decreases-members l = length l.rest
