use Rattle.std.proofs.Common.{map}
use Rattle.keys_roles.specs.Views.{id_text}
use Rattle.leaf_plans.specs.Views.{kept_view}
use Rattle.signer.proofs.KeptTrees.{below_leaf}
use Rattle.signer.proofs.trees.leaf_below.Goals as goal

pub returns-in-Some : goal.returns-in-Some
returns-in-Some g c =
    below_leaf c.args.book.now.book c.rests.ensures.right c.args.pair.now c.args.q (map kept_view c.kept.result.now) (id_text c.in-Some.key) c.args.message.now
    c.leaf_for.result c.kept.ensures c.in-Some.ensures c.leaf_for.ensures

pub returns-in-None : goal.returns-in-None
returns-in-None g c leaf k = c.in-None.ensures k.0 k.1
