use Rattle.cli_get.proofs.Several.{both, nothing}
use Rattle.cli_get.proofs.many.Task.get_each.Goals as goal

pub texts-init : goal.texts-init
texts-init g c = nothing c.args.self.now.moment _

pub returns-in-Err : goal.returns-in-Err
returns-in-Err g c = both c.args.self.now.moment _ _ _ c.texts.invariant c.in-Err.ensures

pub texts-preserved : goal.texts-preserved
texts-preserved g c = both c.args.self.now.moment _ _ _ c.texts.invariant c.in-Ok.ensures
