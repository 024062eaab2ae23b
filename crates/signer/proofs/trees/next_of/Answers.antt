use Rattle.keys_roles.specs.Views.{id_text}
use Rattle.signer.proofs.KeptTrees.{next_is}
use Rattle.signer.proofs.trees.next_of.Goals as goal

pub returns-in-Some : goal.returns-in-Some
returns-in-Some g c =
    next_is c.args.book.now.book (id_text c.args.key.now) c.in-Some.field-0 c.next_leaf.result c.rests.ensures.right c.in-Some.ensures c.next_leaf.ensures
