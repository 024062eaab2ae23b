use Rattle.std.proofs.Common.{List, length}
use Rattle.sqlite.specs.Order.{Row}
use Rattle.table_rows.specs.steps.Loading.{AreHeld, HasFiles}
use Rattle.table_rows.proofs.FourLemmas.{HaveMoved}
use Rattle.table_rows.proofs.fours.take_held.Given as goal

abbrev pub invariant-held : goal.invariant-held
invariant-held l = (rows late : List Row) → AreHeld late l.held → HasFiles rows l.fn.tested.items.items l.fn.tested.is_spoiled → HaveMoved rows late l.tested.items.items l.tested.is_spoiled l.rest

abbrev pub decreases-held : goal.decreases-held
decreases-held l = length l.rest
