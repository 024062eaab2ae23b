use Rattle.cli_get.proofs.Several.{nothing}
use Rattle.cli_get.proofs.many.Task.get_text.Goals as goal

pub returns-in-Ok-None : goal.returns-in-Ok-None
returns-in-Ok-None g c = nothing c.args.self.now.moment _

pub returns-in-Err : goal.returns-in-Err
returns-in-Err g c = nothing c.args.self.now.moment _
