use Rattle.leaf_book.proofs.BookLemmas.{same_book}
use Rattle.leaf_book.proofs.laws.one_book.Goals as goal

pub returns : goal.returns
returns c trees b d one two = same_book trees b d one two
