use Rattle.store.specs.Views.{command_view}
use Rattle.cli_repository.proofs.Doing.{answered}
use Rattle.cli_repository.proofs.repository.applied.Goals as goal

pub returns : goal.returns
returns g c = answered (command_view c.args.command) c.args.now _ _ _ _ (λ A B q v d. d) c.worked.ensures
