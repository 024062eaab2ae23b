use Rattle.delegations.proofs.Rooted.{prefixes}
use Rattle.delegations.proofs.laws.beginnings_are_visited.Goals as goal

pub returns : goal.returns
returns c = prefixes
