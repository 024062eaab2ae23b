use Rattle.std.proofs.Common.{◌≡◌, ℕ}
use Rattle.trust_rules.specs.Runs.{BatchDone, Reply}
use Rattle.store.specs.Views.{command_view}
use Rattle.store.specs.declared.command.Command.TheVariants.{Batch}
use Rattle.cli_repository.proofs.Doing.{answered}
use Rattle.cli_repository.proofs.Ending.{unmade}
use Rattle.release.proofs.Ending.{ended}
use Rattle.release.proofs.publish.offer.Goals as goal

abbrev IsDone : Reply → Type 0
IsDone reply = (accepted same : ℕ) × (reply ≡ BatchDone accepted same)

pub returns-in-Err : goal.returns-in-Err
returns-in-Err g c =
    unmade (command_view (Batch c.args.batch.documents)) c.args.now IsDone c.in-Err.fault (answered (command_view (Batch c.args.batch.documents)) c.args.now _ _ _ _ (λ A B q v d. d) c.in-Err.ensures)

pub returns : goal.returns
returns g c =
    ended (command_view (Batch c.args.batch.documents)) c.args.now IsDone (λ t S T q x. x) c.in-Ok.reply
    (answered (command_view (Batch c.args.batch.documents)) c.args.now _ _ _ _ (λ A B q v d. d) c.in-Ok.ensures) c.print_accepted.result c.print_accepted.ensures
