use Rattle.denials.specs.Orders.{pass, decide, holds, fails, given}
use Rattle.trusted_state.specs.Answers.{gives, denies}
use Rattle.trust_rules.proofs.OrderLines.{yes, no}
use Rattle.judging.proofs.snapshots.after_snapshot.Goals as goal

pub returns-in_default : goal.returns-in_default
returns-in_default c = rw (c.in_default.is) (gives given)

pub returns-then-not-has_no_rollback : goal.returns-then-not-has_no_rollback
returns-then-not-has_no_rollback c = rw (c.in-Some.is) (denies (decide (fails (no c.if-not-has_no_rollback.ensures))))

pub returns-then-not-has_no_drop : goal.returns-then-not-has_no_drop
returns-then-not-has_no_drop c = rw (c.in-Some.is) (denies (pass (holds (yes c.if-not-has_no_rollback.ensures)) (fails (no c.if-not-has_no_drop.ensures))))

pub returns : goal.returns
returns c = rw (c.in-Some.is) (gives (pass (holds (yes c.if-not-has_no_rollback.ensures)) (holds (yes c.if-not-has_no_drop.ensures))))
