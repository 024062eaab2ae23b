use Rattle.trust_rules.proofs.ValidSteps.{nothing_valid}
use Rattle.trust_rules.proofs.laws.nothing_is_valid.Goals as goal

pub returns : goal.returns
returns c = nothing_valid
