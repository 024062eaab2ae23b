use Rattle.store.specs.Views.{command_view}
use Rattle.store.specs.declared.command.Command.TheVariants.{Batch}
use Rattle.release.proofs.AfterPuts.{published}
use Rattle.release.proofs.publish.PublishingWork.work.Goals as goal

pub returns : goal.returns
returns g c = published (command_view (Batch c.args.self.now.offering.batch.documents)) c.args.self.now.offering.now _ _ _ c.work.result c.in-Ok.ensures c.work.ensures
