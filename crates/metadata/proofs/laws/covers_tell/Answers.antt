use Rattle.metadata.proofs.CoversLaw.{covers_tell}
use Rattle.metadata.proofs.laws.covers_tell.Goals as goal

pub returns : goal.returns
returns c = covers_tell c.tests_tell.ensures.segmented c.tests_tell.ensures.prefix
