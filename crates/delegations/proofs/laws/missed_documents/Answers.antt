use Rattle.delegations.proofs.Missing.{missed}
use Rattle.delegations.proofs.laws.missed_documents.Goals as goal

pub returns : goal.returns
returns c = missed
