use Rattle.chain_drafting.proofs.RoleRows.{NoneBefore}
use Rattle.chain_drafting.proofs.delegations.place_of.Given as goal

abbrev pub invariant-loop-i : goal.invariant-loop-i
invariant-loop-i l = NoneBefore l.list l.i l.role
