use Rattle.client.proofs.RolesTaken.{and_then, none_yet}
use Rattle.client.proofs.roles.take_each.Goals as goal

pub missing-init : goal.missing-init
missing-init g c = none_yet c.args.now _

pub missing-preserved-then-is_taken : goal.missing-preserved-then-is_taken
missing-preserved-then-is_taken g c = and_then c.args.now _ _ _ c.missing.invariant c.take_role.ensures

pub missing-preserved-else-is_taken : goal.missing-preserved-else-is_taken
missing-preserved-else-is_taken g c = and_then c.args.now _ _ _ c.missing.invariant c.take_role.ensures

pub returns-then-ends_turn : goal.returns-then-ends_turn
returns-then-ends_turn g c = and_then c.args.now _ _ _ c.missing.invariant c.take_role.ensures

pub missing-preserved : goal.missing-preserved
missing-preserved g c = and_then c.args.now _ _ _ c.missing.invariant c.take_role.ensures
