use Rattle.http_messages.specs.Request.{metadata, prune, put_blob}
use Rattle.http_serve.specs.Response.{names, prunes, puts}
use Rattle.http_serve.proofs.Responding.{offered}
use Rattle.http_serve.proofs.Unavailable.{its_own, of_command}
use Rattle.http_serve.proofs.serve.unavailable.Goals as goal
use Rattle.http_serve.proofs.serve.unavailable.Goals.{in-Fault, in-Batch, in-PutBlob, in-Prune, in-Metadata, in-Target}

pub returns : goal.returns
returns c =
    elim c.match-asked.branch [
      | in-Fault w ↦ rw w.result-is (rw w.in-Fault.is (its_own w.in-Fault.fault))
      | in-Batch w ↦ rw w.result-is (rw w.in-Batch.is (of_command _ _ (offered _)))
      | in-PutBlob w ↦ rw w.result-is (rw w.in-PutBlob.is (of_command (put_blob _ _) _ (puts _ _)))
      | in-Prune w ↦ rw w.result-is (rw w.in-Prune.is (of_command prune _ prunes))
      | in-Metadata w ↦ rw w.result-is (rw w.in-Metadata.is (of_command (metadata _) _ (names _)))
      | in-Target w ↦ rw w.result-is (rw w.in-Target.is w.unavailable_target.ensures)
    ]
