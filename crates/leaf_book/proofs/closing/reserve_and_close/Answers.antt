use Rattle.std.proofs.Math.Logic.{∥∥₁_map}
use Rattle.leaf_book.proofs.Reopening.{each_ok}
use Rattle.leaf_book.proofs.closing.reserve_and_close.Goals as goal

pub returns-clause-before_or_after : goal.returns-clause-before_or_after
returns-clause-before_or_after g c honest there left out found finds =
    ∥∥₁_map (c.close.ensures.left honest left out found finds) (λ may. c.reserved-result.ensures.before_or_after (c.close.ensures.clean honest) there found may)

pub returns-clause-after : goal.returns-clause-after
returns-clause-after g c honest left out found finds =
    each_ok _ _ (c.close.ensures.left honest left out found finds) (λ may. c.reserved-result.ensures.after (c.close.ensures.clean honest) found may)
