use Rattle.metadata.proofs.FirstRoots.{roots_as_before}
use Rattle.metadata.proofs.laws.first_roots_as_before.Goals as goal

pub returns : goal.returns
returns c = roots_as_before
