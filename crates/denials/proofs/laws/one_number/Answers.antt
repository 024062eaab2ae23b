use Rattle.denials.proofs.NumberRows.{one_number}
use Rattle.denials.proofs.laws.one_number.Goals as goal

pub returns : goal.returns
returns c = one_number
