use Rattle.std.proofs.lemmas.Result.{err_from_is_err_and}
use Rattle.metadata.specs.File.{targets_form}
use Rattle.metadata.specs.FileViews.{targets_file}
use Rattle.metadata.specs.Shaped.{reads}
use Rattle.trusted_state.specs.Answers.{gives}
use Rattle.trusted_state.proofs.OrderSteps.{of_another_shape}
use Rattle.judging.proofs.files.new_targets.Goals as goal

pub returns-in_err-read_targets_file-clause-shape : goal.returns-in_err-read_targets_file-clause-shape
returns-in_err-read_targets_file-clause-shape c =
    let p = err_from_is_err_and c.from_residual.result c.from_residual.ensures.1 in
    rw (p.1) (of_another_shape targets_form targets_file _ c.in_err-read_targets_file.field-0.0 _ c.in_err-read_targets_file.ensures.fault p.2)

pub returns-clause-shape : goal.returns-clause-shape
returns-clause-shape c = gives (reads c.in_ok-read_targets_file.ensures.file.0 c.in_ok-read_targets_file.ensures.file.1)
