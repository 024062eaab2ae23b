use Rattle.delegations.proofs.Complete.{complete}
use Rattle.delegations.proofs.laws.no_chain_left_out.Goals as goal

pub returns : goal.returns
returns c = complete
