use Rattle.sign_books.specs.Works.{unopened}
use Rattle.sign_books.proofs.books.worked_over.Goals as goal

pub returns-then-not-has_bytes : goal.returns-then-not-has_bytes
returns-then-not-has_bytes g c = unopened

pub returns-in-Err : goal.returns-in-Err
returns-in-Err g c = unopened
