use Rattle.std.proofs.Common.{◌≡◌, ℕ, refl}
use Rattle.trust_rules.specs.Runs.{BatchDone, Reply}
use Rattle.cli_repository.proofs.Ending.{printed}
use Rattle.release.proofs.publish.print_accepted.Goals as goal

abbrev IsDone : Reply → Type 0
IsDone reply = (accepted same : ℕ) × (reply ≡ BatchDone accepted same)

pub returns-in-Batch : goal.returns-in-Batch
returns-in-Batch g c =
    let done : IsDone (BatchDone c.in-Batch.accepted c.in-Batch.same) = (c.in-Batch.accepted, c.in-Batch.same, refl) in
    rw c.in-Batch.is (printed (BatchDone c.in-Batch.accepted c.in-Batch.same) IsDone c.print_line.result c.print_line.ensures done)
