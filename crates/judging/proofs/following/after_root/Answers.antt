use Rattle.denials.specs.Orders.{pass, decide, holds, fails}
use Rattle.trusted_state.specs.Answers.{gives, denies}
use Rattle.trust_rules.proofs.OrderLines.{yes, no}
use Rattle.judging.proofs.following.after_root.Goals as goal

pub returns-then-not-is_next : goal.returns-then-not-is_next
returns-then-not-is_next c = denies (decide (fails (no c.if-not-is_next.ensures)))

pub returns-then-not-keeps_profile : goal.returns-then-not-keeps_profile
returns-then-not-keeps_profile c = denies (pass (holds (yes c.if-not-is_next.ensures)) (fails (no c.if-not-keeps_profile.ensures)))

pub returns : goal.returns
returns c = gives (pass (holds (yes c.if-not-is_next.ensures)) (holds (yes c.if-not-keeps_profile.ensures)))
