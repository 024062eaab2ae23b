use Rattle.std.proofs.Common.{IsTrue, ap, subst, sym, ◌∙◌}
use Rattle.sqlite_trees.specs.Tree.{Trees}
use Rattle.sqlite.specs.Effect.{Database}
use Rattle.sqlite.specs.Held.{state}
use Rattle.sqlite.specs.State.{HasCleanDisk}
use Rattle.leaf_plans.specs.Views.{book_view}
use Rattle.leaf_book.specs.Rows.{HoldsWhole}
use Rattle.leaf_book.proofs.BookLemmas.{rests_whole}
use Rattle.leaf_book.proofs.book.Book.rests.Goals as goal

pub returns-clause-left : goal.returns-clause-left
returns-clause-left g c =
    let conn = c.self.inside.conn in
    let s = state g.S.Store conn in
    let book = book_view c.self.inside.signers.items c.self.inside.leaves.items in
    subst (λ b. HasCleanDisk (state g.S.Store b.conn) → IsTrue (state g.S.Store b.conn).is_open → (trees : Trees) → (state g.S.Store b.conn).may_leave trees → HoldsWhole trees b.book) c.self.view_is
    (λ clean is_open trees left.
    let is = c.self.invariant.1 clean is_open in
    rests_whole s book trees c.schema.ensures.live is (ap (λ (d : Database). d.trees) is.settled ∙ sym (g.met.S.Store.settled conn.store trees is_open left)))

pub returns-clause-whole : goal.returns-clause-whole
returns-clause-whole g c =
    let conn = c.self.inside.conn in
    let s = state g.S.Store conn in
    let book = book_view c.self.inside.signers.items c.self.inside.leaves.items in
    subst (λ b. HasCleanDisk (state g.S.Store b.conn) → IsTrue (state g.S.Store b.conn).is_open → HoldsWhole (state g.S.Store b.conn).committed.trees b.book) c.self.view_is
    (λ clean is_open. let is = c.self.invariant.1 clean is_open in rests_whole s book s.committed.trees c.schema.ensures.live is (ap (λ (d : Database). d.trees) is.settled))
