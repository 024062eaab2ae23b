use Rattle.client.proofs.RolesTaken.{and_then, none_yet}
use Rattle.client.proofs.roles.fetch_roles.Goals as goal

pub loop-round-init : goal.loop-round-init
loop-round-init g c = none_yet c.args.now _

pub returns-in-Ok-false : goal.returns-in-Ok-false
returns-in-Ok-false g c = and_then c.args.now _ _ _ c.loop-round.invariant c.take_missing.ensures

pub returns-in-Err : goal.returns-in-Err
returns-in-Err g c = and_then c.args.now _ _ _ c.loop-round.invariant c.take_missing.ensures

pub loop-round-preserved : goal.loop-round-preserved
loop-round-preserved g c = and_then c.args.now _ _ _ c.loop-round.invariant c.take_missing.ensures
