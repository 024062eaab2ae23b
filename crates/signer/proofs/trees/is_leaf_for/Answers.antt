use Rattle.keys_roles.specs.Views.{id_text}
use Rattle.signer.proofs.KeptTrees.{leaf_is}
use Rattle.signer.proofs.trees.is_leaf_for.Goals as goal

pub returns-in-Some : goal.returns-in-Some
returns-in-Some g c =
    leaf_is c.args.book.now.book (id_text c.args.key.now) c.args.message.now c.in-Some.found c.args.leaf c.is_number.result c.rests.ensures.right c.in-Some.ensures c.is_number.ensures
