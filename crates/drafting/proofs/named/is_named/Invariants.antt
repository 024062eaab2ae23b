use Rattle.std.proofs.Common.{length}
use Rattle.drafting.specs.Roots.{IsNamed}
use Rattle.drafting.proofs.Rows.{shown}
use Rattle.drafting.proofs.named.is_named.Given as goal

abbrev pub invariant-roles : goal.invariant-roles
invariant-roles l = record {
  ahead : IsNamed (shown l.fn.roles) l.id → IsNamed (shown l.rest) l.id;
  back : IsNamed (shown l.rest) l.id → IsNamed (shown l.fn.roles) l.id;
}

abbrev pub decreases-roles : goal.decreases-roles
decreases-roles l = length l.rest
