use Rattle.client.specs.Taken.{IsTaking}
use Rattle.client.proofs.Composing.{becomes, rests}
use Rattle.client.proofs.RolesTaken.{row_runs}
use Rattle.client.proofs.Runs.{stays}
use Rattle.client.proofs.roles.take_role.Goals as goal

pub returns-in-Ok : goal.returns-in-Ok
returns-in-Ok g c = becomes _ _ c.take.ensures (λ C D took. row_runs g.F.Source.gives c.args.now _ _ _ _ _ C D _ c.in-Ok.ensures took)

pub returns-in-Err : goal.returns-in-Err
returns-in-Err g c = rests _ _ (λ S at. stays IsTaking c.args.now S)
