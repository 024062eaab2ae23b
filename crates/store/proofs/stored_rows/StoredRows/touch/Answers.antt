use Rattle.std.proofs.Common.{arith}
use Rattle.store.proofs.stored_rows.StoredRows.touch.Goals as goal

pub invariant_of-self : goal.invariant_of-self
invariant_of-self g c = (
  c.check_open.ensures.mode c.self.invariant.0,
  (λ clean stays.
      let (rows, is) = c.self.invariant.1 (omega (arith, clean, c.check_open.ensures.survives.clean)) (c.check_open.ensures.was_open clean stays) in
      (rows, c.check_open.ensures.kept clean stays rows is)),
)
