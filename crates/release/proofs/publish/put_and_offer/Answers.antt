use Rattle.std.proofs.Common.{◌≡◌, ℕ}
use Rattle.trust_rules.specs.Runs.{BatchDone, Reply}
use Rattle.store.specs.Views.{command_view}
use Rattle.store.specs.declared.command.Command.TheVariants.{Batch}
use Rattle.release.proofs.AfterPuts.{ended_over, failed_over}
use Rattle.release.proofs.publish.put_and_offer.Goals as goal

abbrev IsDone : Reply → Type 0
IsDone reply = (accepted same : ℕ) × (reply ≡ BatchDone accepted same)

pub returns-in-Err : goal.returns-in-Err
returns-in-Err g c = failed_over (command_view (Batch c.args.batch.documents)) c.args.now IsDone _ _ _ c.in-Err.fault (λ A B q v d. d) c.in-Err.ensures

pub returns : goal.returns
returns g c =
    ended_over (command_view (Batch c.args.batch.documents)) c.args.now IsDone (λ t S T q x. x) _ _ _ c.in-Ok.reply (λ A B q v d. d) c.in-Ok.ensures
    c.print_accepted.result c.print_accepted.ensures
