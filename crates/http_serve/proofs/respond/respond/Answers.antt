use Rattle.http_messages.specs.Request.{metadata, prune, put_blob}
use Rattle.http_serve.specs.Response.{names, prunes, puts}
use Rattle.http_serve.proofs.Responding.{faulty, served}
use Rattle.http_serve.proofs.respond.respond.Goals as goal

pub returns-in-Fault-clause-responded : goal.returns-in-Fault-clause-responded
returns-in-Fault-clause-responded g c =
    rw c.in-Fault.is (faulty _ c.in-Fault.fault c.args.now _ _ c.write_fault.result c.write_fault.ensures.wrote)

pub returns-in-Batch-clause-responded : goal.returns-in-Batch-clause-responded
returns-in-Batch-clause-responded g c = rw c.in-Batch.is c.respond_batch.ensures.responded

pub returns-in-PutBlob-clause-responded : goal.returns-in-PutBlob-clause-responded
returns-in-PutBlob-clause-responded g c =
    rw c.in-PutBlob.is (served _ _ (put_blob c.in-PutBlob.digest.0 c.in-PutBlob.bytes.now) _ c.args.now _ _ c.perform.result (puts _ _) c.perform.ensures.performed)

pub returns-in-Prune-clause-responded : goal.returns-in-Prune-clause-responded
returns-in-Prune-clause-responded g c =
    rw c.in-Prune.is (served _ _ prune _ c.args.now _ _ c.perform-in-Prune.result prunes c.perform-in-Prune.ensures.performed)

pub returns-in-Metadata-clause-responded : goal.returns-in-Metadata-clause-responded
returns-in-Metadata-clause-responded g c =
    rw c.in-Metadata.is (served _ _ (metadata c.in-Metadata.name.now) _ c.args.now _ _ c.perform-in-Metadata.result (names _) c.perform-in-Metadata.ensures.performed)

pub returns-in-Target-clause-responded : goal.returns-in-Target-clause-responded
returns-in-Target-clause-responded g c = rw c.in-Target.is c.respond_target.ensures.responded
