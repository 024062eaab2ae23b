use Rattle.client.proofs.RolesTaken.{none_yet}
use Rattle.client.proofs.roles.take_missing.Goals as goal

pub returns-in-Ok : goal.returns-in-Ok
returns-in-Ok g c = none_yet c.args.now _

pub returns-in-Err : goal.returns-in-Err
returns-in-Err g c = none_yet c.args.now _
