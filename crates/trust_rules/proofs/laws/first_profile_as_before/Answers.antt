use Rattle.trust_rules.proofs.AsBefore.{first_as_before}
use Rattle.trust_rules.proofs.laws.first_profile_as_before.Goals as goal

pub returns : goal.returns
returns c = record { targets = first_as_before }
