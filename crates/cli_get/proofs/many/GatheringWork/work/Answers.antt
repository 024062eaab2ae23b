use Rattle.cli_get.proofs.Several.{both}
use Rattle.cli_get.proofs.many.GatheringWork.work.Goals as goal

pub returns-in-Ok : goal.returns-in-Ok
returns-in-Ok g c = both c.args.self.now.task.moment _ _ _ c.in-Ok.ensures c.get_each.ensures
