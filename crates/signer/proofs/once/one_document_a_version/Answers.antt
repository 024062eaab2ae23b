use Rattle.signer.proofs.OneVersion.{runs_safe}
use Rattle.signer.proofs.once.one_document_a_version.Goals as goal

pub returns : goal.returns
returns c b d events none runs = runs_safe b d events none runs
