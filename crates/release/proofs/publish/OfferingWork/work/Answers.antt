use Rattle.store.specs.Views.{command_view}
use Rattle.store.specs.declared.command.Command.TheVariants.{Batch}
use Rattle.cli_repository.proofs.Doing.{unmade}
use Rattle.release.proofs.publish.OfferingWork.work.Goals as goal

pub returns-in-Err : goal.returns-in-Err
returns-in-Err g c = rw c.fault_of_store.ensures (unmade _ _ (command_view (Batch c.args.self.now.batch.documents)) c.args.self.now.now _ c.in-Err.ensures.makes)
