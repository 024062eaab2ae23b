use Rattle.std.proofs.Common.{arith}
use Rattle.leaf_book.proofs.book.Book.touch.Goals as goal

pub invariant_of-self : goal.invariant_of-self
invariant_of-self g c = (
  c.self.invariant.0,
  λ clean stays. c.check_open.ensures.kept clean stays _ (c.self.invariant.1 (omega (arith, clean, c.check_open.ensures.survives.clean)) (c.check_open.ensures.was_open clean stays)),
)
