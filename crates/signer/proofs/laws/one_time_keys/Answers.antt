use Rattle.signer.proofs.OneTime.{one_time}
use Rattle.signer.proofs.laws.one_time_keys.Goals as goal

pub returns : goal.returns
returns c b events w right runs = one_time c.never_twice.ensures b events w right runs
