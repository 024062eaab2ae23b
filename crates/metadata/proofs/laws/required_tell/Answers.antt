use Rattle.metadata.proofs.CoversLaw.{required_tell}
use Rattle.metadata.proofs.laws.required_tell.Goals as goal

pub returns : goal.returns
returns c = required_tell c.tests_tell.ensures.segmented
