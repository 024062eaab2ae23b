use Rattle.std.proofs.Common.{length}
use Rattle.drafting.specs.Roots.{HasId}
use Rattle.drafting.proofs.Rows.{shown}
use Rattle.drafting.proofs.named.some_has_id.Given as goal

abbrev pub invariant-members : goal.invariant-members
invariant-members l = record {
  ahead : HasId (shown l.fn.members) l.id → HasId (shown l.rest) l.id;
  back : HasId (shown l.rest) l.id → HasId (shown l.fn.members) l.id;
}

abbrev pub decreases-members : goal.decreases-members
decreases-members l = length l.rest
