use Rattle.std.proofs.Common.{Ok, Err, subst}
use Rattle.std.proofs.lemmas.Result.{err_from_is_err_and}
use Rattle.metadata.specs.FileViews.{timestamp_file}
use Rattle.denials.specs.Orders.{pass, decide, holds, fails, given, Same}
use Rattle.trusted_state.specs.steps.Judging.{Judges, accepts, keeps, rejects}
use Rattle.trust_rules.specs.Offers.{after_timestamp}
use Rattle.trust_rules.proofs.OrderLines.{yes, no}
use Rattle.trusted_state.proofs.OrderSteps.{accepted, kept_same, rejected_here, rejected_behind}
use Rattle.judging.proofs.timestamps.judge_timestamp.Goals as goal

pub returns-then-not-live : goal.returns-then-not-live
returns-then-not-live c = rejects (decide (fails (no c.if-not-live.ensures)))

pub returns-then-not-is_signed : goal.returns-then-not-is_signed
returns-then-not-is_signed c = rejects (pass (holds (yes c.if-not-live.ensures)) (decide (fails (no c.if-not-is_signed.ensures))))

pub returns-then-not-branch : goal.returns-then-not-branch
returns-then-not-branch c =
    keeps (pass (holds (yes c.if-not-live.ensures)) (pass (holds (yes c.if-not-is_signed.ensures))
    (decide (subst (λ o. after_timestamp o (timestamp_file c.args.new.now) (Err Same)) c.timestamp.ensures (kept_same c.if-not-branch.true c.in_ok-after_timestamp.ensures)))))

pub returns-in_err-after_timestamp : goal.returns-in_err-after_timestamp
returns-in_err-after_timestamp c =
    let p = err_from_is_err_and c.from_residual.result c.from_residual.ensures.1 in
    rw (p.1, p.2) (rejected_behind tt (holds (yes c.if-not-live.ensures)) (rejected_behind tt (holds (yes c.if-not-is_signed.ensures))
    (rejected_here (subst (λ o. Judges (after_timestamp o (timestamp_file c.args.new.now)) tt (Err c.in_err-after_timestamp.field-0.0)) c.timestamp.ensures c.in_err-after_timestamp.ensures))))

pub returns-then-not-live-2 : goal.returns-then-not-live-2
returns-then-not-live-2 c =
    rejects (pass (holds (yes c.if-not-live.ensures)) (pass (holds (yes c.if-not-is_signed.ensures))
    (pass (subst (λ o. after_timestamp o (timestamp_file c.args.new.now) (Ok tt)) c.timestamp.ensures (accepted c.if-not-branch.false c.in_ok-after_timestamp.ensures))
    (decide (fails (no c.if-not-live-2.ensures))))))

pub returns : goal.returns
returns c =
    accepts (pass (holds (yes c.if-not-live.ensures)) (pass (holds (yes c.if-not-is_signed.ensures))
    (pass (subst (λ o. after_timestamp o (timestamp_file c.args.new.now) (Ok tt)) c.timestamp.ensures (accepted c.if-not-branch.false c.in_ok-after_timestamp.ensures))
    (pass (holds (yes c.if-not-live-2.ensures)) given))))
