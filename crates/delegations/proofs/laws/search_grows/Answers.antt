use Rattle.delegations.proofs.Grows.{grows}
use Rattle.delegations.proofs.laws.search_grows.Goals as goal

pub returns : goal.returns
returns c = grows
