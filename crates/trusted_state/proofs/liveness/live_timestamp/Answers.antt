use Rattle.denials.specs.Orders.{pass, decide, holds, fails, given, stopped}
use Rattle.trusted_state.specs.Answers.{gives, denies}
use Rattle.trust_rules.proofs.OrderLines.{yes, no}
use Rattle.trusted_state.proofs.liveness.live_timestamp.Goals as goal

pub returns-then-not-live : goal.returns-then-not-live
returns-then-not-live c = denies (decide (fails (no c.if-not-live.ensures)))

pub returns-in_default : goal.returns-in_default
returns-in_default c = rw (c.in_default.is) (denies (pass (holds (yes c.if-not-live.ensures)) (decide stopped)))

pub returns-then-not-live-2 : goal.returns-then-not-live-2
returns-then-not-live-2 c = rw (c.in-Some.is) (denies (pass (holds (yes c.if-not-live.ensures)) (pass given (decide (fails (no c.if-not-live-2.ensures))))))

pub returns : goal.returns
returns c = rw (c.in-Some.is) (gives (pass (holds (yes c.if-not-live.ensures)) (pass given (pass (holds (yes c.if-not-live-2.ensures)) given))))
