use Rattle.leaf_book.proofs.Reopening.{opened_same}
use Rattle.leaf_book.proofs.laws.reopens.Goals as goal

pub returns : goal.returns
returns c trees b r right stands opens = opened_same trees b r right stands opens
