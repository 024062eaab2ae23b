use Rattle.std.proofs.Common.{sym}
use Rattle.denials.specs.Orders.{pass, decide, holds, fails}
use Rattle.trusted_state.specs.Answers.{gives, denies}
use Rattle.trust_rules.proofs.OrderLines.{yes, no}
use Rattle.judging.proofs.snapshots.named_snapshot.Goals as goal

pub returns-then-not-has_length : goal.returns-then-not-has_length
returns-then-not-has_length c = denies (decide (fails (no c.if-not-has_length.ensures)))

pub returns-then-not-has_hash : goal.returns-then-not-has_hash
returns-then-not-has_hash c = denies (pass (holds (yes c.if-not-has_length.ensures)) (decide (fails (no c.if-not-has_hash.ensures))))

pub returns-then-not-is_signed : goal.returns-then-not-is_signed
returns-then-not-is_signed c = denies (pass (holds (yes c.if-not-has_length.ensures)) (pass (holds (yes c.if-not-has_hash.ensures)) (decide (fails (no c.if-not-is_signed.ensures)))))

pub returns-then-new-timestamp : goal.returns-then-new-timestamp
returns-then-new-timestamp c = denies (pass (holds (yes c.if-not-has_length.ensures)) (pass (holds (yes c.if-not-has_hash.ensures)) (pass (holds (yes c.if-not-is_signed.ensures)) (fails (λ p. c.if-new-timestamp.true (sym p))))))

pub returns : goal.returns
returns c = gives (pass (holds (yes c.if-not-has_length.ensures)) (pass (holds (yes c.if-not-has_hash.ensures)) (pass (holds (yes c.if-not-is_signed.ensures)) (holds (sym c.if-new-timestamp.false)))))
