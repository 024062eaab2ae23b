use Rattle.keys_roles.specs.Views.{id_text}
use Rattle.signer.proofs.KeptTrees.{open_by}
use Rattle.signer.proofs.trees.is_open.Goals as goal

pub returns-in-Some : goal.returns-in-Some
returns-in-Some g c =
    open_by c.args.book.now.book c.rests.ensures.right c.args.pair.now c.args.q (id_text c.in-Some.key) c.has_leaf.result c.in-Some.ensures c.has_leaf.ensures

pub returns-in-None : goal.returns-in-None
returns-in-None g c k = c.in-None.ensures k.0 k.1
