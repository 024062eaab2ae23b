use Rattle.std.proofs.lemmas.Result.{err_from_is_err_and}
use Rattle.canonical_json.specs.View.{view}
use Rattle.keys_roles.specs.Views.{entries_view}
use Rattle.metadata.proofs.Judged.{no_envelope, bad_body}
use Rattle.metadata.proofs.document.read_value.Goals as goal

pub returns-in_err-envelope-clause-err : goal.returns-in_err-envelope-clause-err
returns-in_err-envelope-clause-err c =
    let p = err_from_is_err_and c.from_residual.result c.from_residual.ensures.1 in
    rw (p.1, p.2) (no_envelope c.args.kind (view c.args.value.now) _ c.in_err-envelope.ensures.err)

pub returns-in_err-body-clause-err : goal.returns-in_err-body-clause-err
returns-in_err-body-clause-err c =
    let p = err_from_is_err_and c.from_residual-in_err-body.result c.from_residual-in_err-body.ensures.1 in
    rw (p.1, p.2) (bad_body c.args.kind (view c.args.value.now) (entries_view c.in_ok-envelope.envelope.signatures.items) (view c.in_ok-envelope.envelope.part.now) c.in_ok-envelope.envelope.type_name.now
    _ c.requires c.in_ok-envelope.ensures.ok (c.is_kind.ensures.0 c.if-not-is_kind.false) c.in_err-body.ensures.err)
