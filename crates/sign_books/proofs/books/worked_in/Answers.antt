use Rattle.sign_books.specs.Works.{unopened}
use Rattle.sign_books.proofs.books.worked_in.Goals as goal

pub returns-then-at : goal.returns-then-at
returns-then-at g c = unopened

pub returns-after-unopened : goal.returns-after-unopened
returns-after-unopened g c = unopened
