use Rattle.std.proofs.Common.{Bool, IsTrue, refl, subst, sym}
use Rattle.std.proofs.lemmas.Result.{err_from_is_err_and}
use Rattle.metadata.specs.FileViews.{root_file, targets_file}
use Rattle.denials.specs.Orders.{pass, decide}
use Rattle.trust_rules.specs.State.{Trusted}
use Rattle.delegations.specs.Verdicts.{AreFoundOut}
use Rattle.trusted_state.specs.Views.{draft_view}
use Rattle.delegations.proofs.FoundOut.{found_still}
use Rattle.trusted_state.specs.steps.Judging.{takes, stays, ends, gives_up}
use Rattle.trust_rules.proofs.OrderLines.{needed, lacking}
use Rattle.trusted_state.proofs.OrderSteps.{given_by, ends_in, ends_behind, ends_rejected, accepted, kept_same}
use Rattle.judging.proofs.targets_metadata.offer_targets.Goals as goal

pub returns-in_default-clause-ends : goal.returns-in_default-clause-ends
returns-in_default-clause-ends c = ends (decide (lacking _ _ c.in_default.ensures))

pub returns-in_err-new-clause-ends : goal.returns-in_err-new-clause-ends
returns-in_err-new-clause-ends c =
    let p = err_from_is_err_and c.from_residual.result c.from_residual.ensures.1 in
    rw (p.1, p.2) (ends_behind _ (needed _ _ (root_file c.in-Some.root.now) c.in-Some.ensures) (ends_in c.in_err-new.ensures.shape))

pub returns-in_err-put_targets-clause-ends : goal.returns-in_err-put_targets-clause-ends
returns-in_err-put_targets-clause-ends c =
    let p = err_from_is_err_and c.from_residual-in_err-put_targets.result c.from_residual-in_err-put_targets.ensures.1 in
    rw (p.1, p.2) (gives_up)

pub returns-clause-ends : goal.returns-clause-ends
returns-clause-ends c =
    rw (c.in_ok-put_targets.ensures.view)
    (takes (pass (needed _ _ (root_file c.in-Some.root.now) c.in-Some.ensures) (pass (given_by c.in_ok-new.ensures.shape) (accepted c.if-not-branch.false c.in_ok-judge_targets.ensures.judged))))

pub returns-then-not-branch-clause-ends : goal.returns-then-not-branch-clause-ends
returns-then-not-branch-clause-ends c =
    stays (pass (needed _ _ (root_file c.in-Some.root.now) c.in-Some.ensures) (pass (given_by c.in_ok-new.ensures.shape) (kept_same c.if-not-branch.true c.in_ok-judge_targets.ensures.judged))) refl

pub returns-in_err-judge_targets-clause-ends : goal.returns-in_err-judge_targets-clause-ends
returns-in_err-judge_targets-clause-ends c =
    let p = err_from_is_err_and c.from_residual-in_err-judge_targets.result c.from_residual-in_err-judge_targets.ensures.1 in
    rw (p.1, p.2) (ends_behind _ (needed _ _ (root_file c.in-Some.root.now) c.in-Some.ensures)
    (ends_behind _ (given_by c.in_ok-new.ensures.shape) (ends_rejected c.in_err-judge_targets.ensures.judged)))

pub returns-clause-known : goal.returns-clause-known
returns-clause-known c =
    let taken = subst (λ (b : Bool). IsTrue b) (sym c.if-not-branch.false) refl in
    subst (λ (T : Trusted). AreFoundOut T.shelf c.judge_targets.new.known) (sym c.in_ok-put_targets.ensures.view)
    (found_still (draft_view c.args.draft.now).shelf c.judge_targets.new.known c.args.role.now c.in_ok-new.new.body.version (targets_file c.in_ok-new.new) (c.in_ok-judge_targets.ensures.free taken) c.in_ok-judge_targets.ensures.known)
