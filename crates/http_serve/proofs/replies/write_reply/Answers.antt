use Rattle.std.proofs.Common.{inl, ◌∙◌}
use Rattle.denials.specs.Views.{denial_view}
use Rattle.http_messages.specs.declared.reply.Kind.TheVariants.{Json}
use Rattle.http_serve.specs.Response.{absent, done, pruned, stored}
use Rattle.http_serve.proofs.Telling.{denied-told, says-done, says-file, says-pruned, says-stored}
use Rattle.http_serve.proofs.replies.write_reply.Goals as goal

pub returns-in-Batch-clause-told : goal.returns-in-Batch-clause-told
returns-in-Batch-clause-told g c =
    rw c.in-Batch.is (
      _,
      inl (says-done c.args.kind c.in-Batch.accepted c.in-Batch.same c.deref.result.now _ (c.deref.ensures.0 ∙ c.accepted_body-body.ensures) (done _ _)),
      c.write_done.ensures.wrote,
    )

pub returns-in-Stored-clause-told : goal.returns-in-Stored-clause-told
returns-in-Stored-clause-told g c =
    rw c.in-Stored.is (
      _,
      inl (says-stored c.args.kind c.in-Stored.new c.stored_body.result.now _ c.stored_body.ensures (stored _)),
      c.write_done-in-Stored.ensures.wrote,
    )

pub returns-in-Pruned-clause-told : goal.returns-in-Pruned-clause-told
returns-in-Pruned-clause-told g c =
    rw c.in-Pruned.is (
      _,
      inl (says-pruned c.args.kind c.in-Pruned.blobs c.in-Pruned.rows c.deref-in-Pruned.result.now _ (c.deref-in-Pruned.ensures.0 ∙ c.pruned_body-body.ensures) (pruned _ _)),
      c.write_done-in-Pruned.ensures.wrote,
    )

pub returns-in-Bytes-clause-told : goal.returns-in-Bytes-clause-told
returns-in-Bytes-clause-told g c =
    rw c.in-Bytes.is (
      _,
      inl (says-file c.args.kind c.deref-in-Bytes.result.now c.in-Bytes.bytes.items c.deref-in-Bytes.ensures.value),
      c.write_done-in-Bytes.ensures.wrote,
    )

pub returns-in-Absent-clause-told : goal.returns-in-Absent-clause-told
returns-in-Absent-clause-told g c = rw c.in-Absent.is (_, inl absent, c.write_fault.ensures.wrote)

pub returns-in-Denied-clause-told : goal.returns-in-Denied-clause-told
returns-in-Denied-clause-told g c =
    rw c.in-Denied.is (denied-told Json c.args.kind (denial_view c.in-Denied.denial) c.in-Denied.index _ _ _ c.write_denial.ensures.told)
