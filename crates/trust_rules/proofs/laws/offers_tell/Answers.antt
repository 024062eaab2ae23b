use Rattle.trust_rules.proofs.OffersTell.{put_tells, same_tells}
use Rattle.trust_rules.proofs.laws.offers_tell.Goals as goal

pub returns-clause-targets : goal.returns-clause-targets
returns-clause-targets c = put_tells

pub returns-clause-same : goal.returns-clause-same
returns-clause-same c = same_tells
