use Rattle.trust_rules.proofs.CoherentSteps.{stays_coherent}
use Rattle.trust_rules.proofs.laws.stays_coherent.Goals as goal

pub returns : goal.returns
returns c = stays_coherent
