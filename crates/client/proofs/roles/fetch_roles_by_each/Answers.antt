use Rattle.client.proofs.RolesTaken.{and_then, none_yet}
use Rattle.client.proofs.roles.fetch_roles_by_each.Goals as goal

pub loop-place-init : goal.loop-place-init
loop-place-init g c = none_yet c.args.now _

pub returns-in-Ok : goal.returns-in-Ok
returns-in-Ok g c = record { runs = and_then c.args.now _ _ _ c.loop-place.invariant c.fetch_roles.ensures }

pub returns-then-is_want : goal.returns-then-is_want
returns-then-is_want g c = record { runs = and_then c.args.now _ _ _ c.loop-place.invariant c.fetch_roles.ensures }

pub loop-place-preserved : goal.loop-place-preserved
loop-place-preserved g c = and_then c.args.now _ _ _ c.loop-place.invariant c.fetch_roles.ensures
