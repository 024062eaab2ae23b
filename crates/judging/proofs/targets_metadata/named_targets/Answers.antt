use Rattle.denials.specs.Orders.{pass, decide, holds, fails}
use Rattle.trusted_state.specs.Answers.{gives, denies}
use Rattle.trust_rules.proofs.OrderLines.{yes, no}
use Rattle.judging.proofs.targets_metadata.named_targets.Goals as goal

pub returns-then-not-has_length : goal.returns-then-not-has_length
returns-then-not-has_length c = denies (decide (fails (no c.if-not-has_length.ensures)))

pub returns-then-not-has_hash : goal.returns-then-not-has_hash
returns-then-not-has_hash c = denies (pass (holds (yes c.if-not-has_length.ensures)) (decide (fails (no c.if-not-has_hash.ensures))))

pub returns-then-new-entry : goal.returns-then-new-entry
returns-then-new-entry c = denies (pass (holds (yes c.if-not-has_length.ensures)) (pass (holds (yes c.if-not-has_hash.ensures)) (fails c.if-new-entry.true)))

pub returns : goal.returns
returns c = gives (pass (holds (yes c.if-not-has_length.ensures)) (pass (holds (yes c.if-not-has_hash.ensures)) (holds c.if-new-entry.false)))
