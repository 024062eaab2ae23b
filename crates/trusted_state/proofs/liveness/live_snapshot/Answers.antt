use Rattle.std.proofs.lemmas.Result.{err_from_is_err_and}
use Rattle.denials.specs.Orders.{pass, decide, holds, fails, given, stopped}
use Rattle.trusted_state.specs.Answers.{gives, denies}
use Rattle.trust_rules.proofs.OrderLines.{yes, no}
use Rattle.trusted_state.proofs.OrderSteps.{denied_in, given_by}
use Rattle.trusted_state.proofs.liveness.live_snapshot.Goals as goal

pub returns-in_err-timestamp-clause-answer : goal.returns-in_err-timestamp-clause-answer
returns-in_err-timestamp-clause-answer c =
    let p = err_from_is_err_and c.from_residual.result c.from_residual.ensures.1 in
    rw (p.1, p.2) (denied_in c.in_err-timestamp.ensures)

pub returns-in_default-clause-answer : goal.returns-in_default-clause-answer
returns-in_default-clause-answer c = rw (c.in_default.is) (denies (pass (given_by c.in_ok-timestamp.ensures) (decide stopped)))

pub returns-then-not-names_snapshot-clause-answer : goal.returns-then-not-names_snapshot-clause-answer
returns-then-not-names_snapshot-clause-answer c =
    rw (c.in-Some.is) (denies (pass (given_by c.in_ok-timestamp.ensures) (pass given (decide (fails (no c.if-not-names_snapshot.ensures))))))

pub returns-then-not-live-clause-answer : goal.returns-then-not-live-clause-answer
returns-then-not-live-clause-answer c =
    rw (c.in-Some.is) (denies (pass (given_by c.in_ok-timestamp.ensures) (pass given (pass (holds (yes c.if-not-names_snapshot.ensures)) (decide (fails (no c.if-not-live.ensures)))))))

pub returns-clause-answer : goal.returns-clause-answer
returns-clause-answer c =
    rw (c.in-Some.is) (gives (pass (given_by c.in_ok-timestamp.ensures) (pass given (pass (holds (yes c.if-not-names_snapshot.ensures)) (pass (holds (yes c.if-not-live.ensures)) given)))))
