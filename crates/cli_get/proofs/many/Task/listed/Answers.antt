use Rattle.cli_get.proofs.Several.{nothing}
use Rattle.cli_get.proofs.many.Task.listed.Goals as goal

pub returns-in-Ok-Some : goal.returns-in-Ok-Some
returns-in-Ok-Some g c = nothing c.args.self.now.moment _

pub returns-in-Err : goal.returns-in-Err
returns-in-Err g c = nothing c.args.self.now.moment _
