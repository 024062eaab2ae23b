use Rattle.sign_books.proofs.Leading.{rests}
use Rattle.sign_books.proofs.books.LookingBookWork.work.Goals as goal

pub returns-clause-leads : goal.returns-clause-leads
returns-clause-leads g c = rests c.args.book.now.book
