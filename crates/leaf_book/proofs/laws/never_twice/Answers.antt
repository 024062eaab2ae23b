use Rattle.leaf_book.specs.Runs.{begun}
use Rattle.leaf_book.proofs.RunLemmas.{begun_world, runs_right, twice_never}
use Rattle.leaf_book.proofs.laws.never_twice.Goals as goal

pub returns : goal.returns
returns c b early late v w right first second =
    let one = runs_right (begun b) v early (begun_world b right) first in
    let two = runs_right v w late one.0 second in
    twice_never v w two.0 two.1
