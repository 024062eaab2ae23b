use Rattle.trust_rules.proofs.OneJudgement.{listed-definite}
use Rattle.trust_rules.proofs.OffersTell.{granted_blob}
use Rattle.trust_rules.proofs.laws.granted_blobs.Goals as goal

pub returns-clause-granted : goal.returns-clause-granted
returns-clause-granted c = granted_blob

pub returns-clause-listed_once : goal.returns-clause-listed_once
returns-clause-listed_once c = listed-definite
