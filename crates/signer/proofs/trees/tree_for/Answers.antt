use Rattle.std.proofs.Common.{ap, ◌∙◌}
use Rattle.keys_roles.specs.Views.{id_text}
use Rattle.signer.specs.Levels.{key_by}
use Rattle.signer.proofs.KeptTrees.{tree_by}
use Rattle.signer.proofs.trees.tree_for.Goals as goal

pub returns : goal.returns
returns g c =
    tree_by c.args.book.now.book c.args.pair.now c.args.message.now (id_text c.id_of.result) c.next_of.result (c.id_of.ensures ∙ ap key_by c.top.ensures)
    c.in_default.ensures c.in_default-first_open.ensures c.next_of.ensures
