use Rattle.std.proofs.Common.{arith, sym}
use Rattle.denials.specs.Orders.{pass, decide, holds, fails, differs, same, given}
use Rattle.trusted_state.specs.steps.Judging.{accepts, keeps, rejects}
use Rattle.judging.proofs.timestamps.after_timestamp.Goals as goal

pub returns-in_default : goal.returns-in_default
returns-in_default c = rw (c.in_default.is) (accepts given)

pub returns-then-new-old : goal.returns-then-new-old
returns-then-new-old c = rw (c.in-Some.is) (rejects (decide (fails (λ p. omega (arith, p)))))

pub returns-then-new-old-2 : goal.returns-then-new-old-2
returns-then-new-old-2 c = rw (c.in-Some.is) (keeps (pass (holds (omega arith)) (decide (same (sym c.if-new-old-2.true)))))

pub returns-then-new-old-3 : goal.returns-then-new-old-3
returns-then-new-old-3 c =
    rw (c.in-Some.is) (rejects (pass (holds (omega arith)) (pass (differs (λ p. c.if-new-old-2.false (sym p))) (fails (λ p. omega (arith, p))))))

pub returns : goal.returns
returns c = rw (c.in-Some.is) (accepts (pass (holds (omega arith)) (pass (differs (λ p. c.if-new-old-2.false (sym p))) (holds (omega arith)))))
