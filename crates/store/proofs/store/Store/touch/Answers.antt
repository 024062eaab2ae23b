use Rattle.std.proofs.Common.{arith}
use Rattle.store.specs.StateRows.{rows_of}
use Rattle.store.proofs.store.Store.touch.Goals as goal

pub invariant_of-self : goal.invariant_of-self
invariant_of-self g c =
    let (U, of, rows) = c.self.invariant in (
      U,
      of,
      (λ clean stays. c.touch.ensures.kept clean stays (rows_of U) (rows (omega (arith, clean, c.touch.ensures.survives.clean)) (c.touch.ensures.was_open clean stays))),
    )
