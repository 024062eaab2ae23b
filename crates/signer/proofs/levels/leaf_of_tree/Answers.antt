use Rattle.signer.proofs.LevelLeaves.{right_leaf}
use Rattle.signer.proofs.levels.leaf_of_tree.Goals as goal

pub returns : goal.returns
returns c b d top q message signature right at s = right_leaf b d top.seed top.params q message signature right at s
