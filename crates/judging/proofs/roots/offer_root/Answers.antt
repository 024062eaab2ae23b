use Rattle.std.proofs.Common.{refl}
use Rattle.std.proofs.lemmas.Result.{err_from_is_err_and}
use Rattle.metadata.specs.FileViews.{root_file}
use Rattle.denials.specs.Orders.{pass, decide, differs, same}
use Rattle.trusted_state.specs.steps.Judging.{takes, stays, ends, gives_up}
use Rattle.trust_rules.proofs.OrderLines.{yes, no, needed, lacking}
use Rattle.trusted_state.proofs.OrderSteps.{given_by, ends_in, ends_behind, ends_given}
use Rattle.judging.proofs.roots.offer_root.Goals as goal

pub returns-in_default-clause-ends : goal.returns-in_default-clause-ends
returns-in_default-clause-ends c = ends (decide (lacking _ _ c.in_default.ensures))

pub returns-then-are_same-clause-ends : goal.returns-then-are_same-clause-ends
returns-then-are_same-clause-ends c = stays (pass (needed _ _ (root_file c.in-Some.old.now) c.in-Some.ensures) (decide (same (rw (← c.bytes.ensures) (yes c.if-are_same.ensures))))) refl

pub returns-in_err-new-clause-ends : goal.returns-in_err-new-clause-ends
returns-in_err-new-clause-ends c =
    let p = err_from_is_err_and c.from_residual.result c.from_residual.ensures.1 in
    rw (p.1, p.2) (ends_behind _ (needed _ _ (root_file c.in-Some.old.now) c.in-Some.ensures) (ends_behind tt (differs (rw (← c.bytes.ensures) (no c.if-are_same.ensures))) (ends_in c.in_err-new.ensures.shape)))

pub returns-in_err-keeps-clause-ends : goal.returns-in_err-keeps-clause-ends
returns-in_err-keeps-clause-ends c =
    let p = err_from_is_err_and c.from_residual-in_err-keeps.result c.from_residual-in_err-keeps.ensures.1 in
    rw (p.1, p.2) (ends_behind _ (needed _ _ (root_file c.in-Some.old.now) c.in-Some.ensures) (ends_behind tt (differs (rw (← c.bytes.ensures) (no c.if-are_same.ensures)))
    (ends_behind _ (given_by c.in_ok-new.ensures.shape) (ends_given c.in_err-keeps.ensures))))

pub returns-clause-ends : goal.returns-clause-ends
returns-clause-ends c =
    rw (c.in_ok-put_root.ensures.view)
    (takes (pass (needed _ _ (root_file c.in-Some.old.now) c.in-Some.ensures) (pass (differs (rw (← c.bytes.ensures) (no c.if-are_same.ensures))) (pass (given_by c.in_ok-new.ensures.shape) (given_by c.in_ok-keeps.ensures)))))

pub returns-in_err-put_root-clause-ends : goal.returns-in_err-put_root-clause-ends
returns-in_err-put_root-clause-ends c =
    let p = err_from_is_err_and c.from_residual-in_err-put_root.result c.from_residual-in_err-put_root.ensures.1 in
    rw (p.1, p.2) (gives_up)
