use Rattle.delegations.proofs.Rising.{all_rise, chains_rise, visits_rise}
use Rattle.delegations.proofs.laws.index_lists_rise.Goals as goal

pub returns-clause-lists : goal.returns-clause-lists
returns-clause-lists c = all_rise

pub returns-clause-chains : goal.returns-clause-chains
returns-clause-chains c = chains_rise

pub returns-clause-visits : goal.returns-clause-visits
returns-clause-visits c = visits_rise
