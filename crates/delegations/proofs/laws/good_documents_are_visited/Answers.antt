use Rattle.delegations.proofs.GoodVisits.{visits_good}
use Rattle.delegations.proofs.laws.good_documents_are_visited.Goals as goal

pub returns : goal.returns
returns c = visits_good
