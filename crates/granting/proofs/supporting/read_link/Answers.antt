use Rattle.std.proofs.Common.{◌∙◌}
use Rattle.std.proofs.lemmas.Result.{err_from_is_err_and}
use Rattle.metadata.specs.File.{link_form}
use Rattle.metadata.specs.FileViews.{link_file}
use Rattle.trust_rules.specs.Held.{bytes_at}
use Rattle.granting.proofs.LoadedFiles.{is_ill, is_read, load_finds, load_told, shape_told}
use Rattle.granting.proofs.ServedFrom.{loaded_bytes}
use Rattle.granting.proofs.supporting.read_link.Goals as goal

pub returns-in_err-file-clause-finds : goal.returns-in_err-file-clause-finds
returns-in_err-file-clause-finds g c honest H S stands there =
    let p = err_from_is_err_and c.from_residual.result c.from_residual.ensures.1 in
    rw (p.1, p.2) (load_finds c.args.digest.0 c.in_err-file.field-0.0 S c.in_err-file.ensures.loads there honest stands)

pub returns-in-Ok-clause-finds : goal.returns-in-Ok-clause-finds
returns-in-Ok-clause-finds g c honest H S stands there =
    is_read link_form link_file c.in-Ok.link _ (bytes_at S c.args.digest.0) c.in-Ok.ensures.file (c.deref.ensures.value ∙ loaded_bytes c.args.digest.0 c.in_ok-file.file S c.in_ok-file.ensures.loads there honest stands)

pub returns-clause-finds : goal.returns-clause-finds
returns-clause-finds g c honest H S stands there =
    is_ill link_form link_file _ (bytes_at S c.args.digest.0) c.in-Err.fault c.shape_answer.result c.in-Err.ensures.fault c.shape_answer.ensures
    (c.deref.ensures.value ∙ loaded_bytes c.args.digest.0 c.in_ok-file.file S c.in_ok-file.ensures.loads there honest stands)

pub returns-in_err-file-clause-told : goal.returns-in_err-file-clause-told
returns-in_err-file-clause-told g c =
    let p = err_from_is_err_and c.from_residual.result c.from_residual.ensures.1 in
    rw (p.1, p.2) (load_told _ _ (g.B.Blobs.Holds c.args.blobs.now) c.args.digest.0 c.in_err-file.field-0.0 c.in_err-file.ensures.loads)

pub returns-clause-told : goal.returns-clause-told
returns-clause-told g c = shape_told c.in-Err.fault c.shape_answer.result c.shape_answer.ensures c.in_ok-file.ensures.loaded
