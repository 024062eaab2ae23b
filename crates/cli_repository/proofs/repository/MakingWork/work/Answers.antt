use Rattle.store.specs.Views.{command_view}
use Rattle.cli_repository.proofs.Doing.{unmade}
use Rattle.cli_repository.proofs.repository.MakingWork.work.Goals as goal

pub returns-in-Err : goal.returns-in-Err
returns-in-Err g c = rw c.fault_of_store.ensures (unmade _ _ (command_view c.args.self.now.command) c.args.self.now.now _ c.in-Err.ensures.makes)
