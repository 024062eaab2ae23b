use Rattle.std.proofs.Common.{subst}
use Rattle.sign_books.specs.Works.{over, unclosed}
use Rattle.sign_books.proofs.books.worked_and_closed.Goals as goal

pub returns-in_default-Err : goal.returns-in_default-Err
returns-in_default-Err g c = over c.args.book.book c.work-done.new.book.book c.rests.ensures.right c.work-done.ensures.leads
    (subst (λ r. g.W.BookWork.does c.args.work.now c.args.book.book r c.work-done.new.book.book c.work-done.new.self) c.in_default-Err.is-1 c.work-done.ensures.does)

pub returns-in-Ok-Ok : goal.returns-in-Ok-Ok
returns-in-Ok-Ok g c = over c.args.book.book c.work-done.new.book.book c.rests.ensures.right c.work-done.ensures.leads
    (subst (λ r. g.W.BookWork.does c.args.work.now c.args.book.book r c.work-done.new.book.book c.work-done.new.self) c.in-Ok-Ok.is-1 c.work-done.ensures.does)

pub returns-in-Err-Ok : goal.returns-in-Err-Ok
returns-in-Err-Ok g c = unclosed _ _ c.rests.ensures.right c.work-done.ensures.leads c.work-done.ensures.does
