use Rattle.signer.proofs.OneVersionBelow.{runs_safe}
use Rattle.signer.proofs.once_below.one_document_in_all_trees.Goals as goal

pub returns : goal.returns
returns c p b d events named none runs = runs_safe p b d events (named, none) runs
