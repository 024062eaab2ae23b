use Rattle.std.proofs.lemmas.Result.{err_from_is_err_and}
use Rattle.metadata.specs.FileViews.{timestamp_file}
use Rattle.trusted_state.proofs.OrderSteps.{given_by, rejected_behind, rejected_in}
use Rattle.judging.proofs.LastLines.{judged_behind}
use Rattle.judging.proofs.following.timestamp_is_next.Goals as goal

pub returns-in_err-old : goal.returns-in_err-old
returns-in_err-old c =
    let p = err_from_is_err_and c.from_residual.result c.from_residual.ensures.1 in
    rw (p.1, p.2) (rejected_in c.in_err-old.ensures.shape)

pub returns-in_err-new : goal.returns-in_err-new
returns-in_err-new c =
    let p = err_from_is_err_and c.from_residual-in_err-new.result c.from_residual-in_err-new.ensures.1 in
    rw (p.1, p.2) (rejected_behind (timestamp_file c.in_ok-old.old) (given_by c.in_ok-old.ensures.shape) (rejected_in c.in_err-new.ensures.shape))

pub returns : goal.returns
returns c =
    judged_behind (timestamp_file c.in_ok-old.old) (given_by c.in_ok-old.ensures.shape)
    (judged_behind (timestamp_file c.in_ok-new.new) (given_by c.in_ok-new.ensures.shape) c.after_timestamp.ensures)
