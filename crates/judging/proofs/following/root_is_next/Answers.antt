use Rattle.std.proofs.lemmas.Result.{err_from_is_err_and}
use Rattle.metadata.specs.FileViews.{root_file}
use Rattle.denials.specs.Orders.{pass}
use Rattle.trusted_state.specs.steps.Judging.{accepts}
use Rattle.trusted_state.proofs.OrderSteps.{given_by, rejected_behind, rejected_in}
use Rattle.judging.proofs.LastLines.{rejected_as}
use Rattle.judging.proofs.following.root_is_next.Goals as goal

pub returns-in_err-old : goal.returns-in_err-old
returns-in_err-old c =
    let p = err_from_is_err_and c.from_residual.result c.from_residual.ensures.1 in
    rw (p.1, p.2) (rejected_in c.in_err-old.ensures.shape)

pub returns-in_err-new : goal.returns-in_err-new
returns-in_err-new c =
    let p = err_from_is_err_and c.from_residual-in_err-new.result c.from_residual-in_err-new.ensures.1 in
    rw (p.1, p.2) (rejected_behind (root_file c.in_ok-old.old) (given_by c.in_ok-old.ensures.shape) (rejected_in c.in_err-new.ensures.shape))

pub returns-in_err-after_root : goal.returns-in_err-after_root
returns-in_err-after_root c =
    let p = err_from_is_err_and c.from_residual-in_err-after_root.result c.from_residual-in_err-after_root.ensures.1 in
    rw (p.1, p.2) (rejected_behind (root_file c.in_ok-old.old) (given_by c.in_ok-old.ensures.shape)
    (rejected_behind (root_file c.in_ok-new.new) (given_by c.in_ok-new.ensures.shape) (rejected_as c.in_err-after_root.ensures)))

pub returns : goal.returns
returns c =
    accepts (pass {a = root_file c.in_ok-old.old} (given_by c.in_ok-old.ensures.shape)
    (pass {a = root_file c.in_ok-new.new} (given_by c.in_ok-new.ensures.shape) (given_by c.in_ok-after_root.ensures)))
