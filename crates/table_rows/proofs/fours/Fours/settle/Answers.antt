use Rattle.std.proofs.Common.{sym, subst}
use Rattle.table_rows.specs.steps.Loading.{AreHeld}
use Rattle.table_rows.proofs.FourLemmas.{settled}
use Rattle.table_rows.proofs.fours.Fours.settle.Goals as goal

pub returns-clause-rows : goal.returns-clause-rows
returns-clause-rows c rows come =
    settled rows _ _ _ _ _ (λ before late are files. c.in_ok-take_held.ensures before late (subst (AreHeld late) (sym c.as_slice.ensures.value) are) files) come
