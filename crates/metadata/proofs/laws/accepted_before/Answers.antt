use Rattle.metadata.proofs.AcceptedBefore.{document_still}
use Rattle.metadata.proofs.laws.accepted_before.Goals as goal

pub returns : goal.returns
returns c = document_still
