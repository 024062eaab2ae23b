use Rattle.std.proofs.Common.{IsTrue, sym, subst}
use Rattle.sqlite.specs.Held.{state}
use Rattle.sqlite.specs.State.{HasCleanDisk}
use Rattle.leaf_book.specs.Rows.{Recovers}
use Rattle.leaf_book.proofs.Reopening.{recovers}
use Rattle.leaf_book.proofs.closing.at_rest.Goals as goal

pub returns : goal.returns
returns g c =
    subst (λ k. HasCleanDisk (state g.S.Store k) → IsTrue (state g.S.Store k).is_open → Recovers (state g.S.Store k).committed.trees c.args.book.book) (sym c.into_connection.ensures)
    (λ clean is_open. recovers (state g.S.Store c.args.book.conn).committed.trees c.args.book.book c.rests.ensures.right (c.rests.ensures.whole clean is_open))
