use Rattle.std.proofs.Common.{List, MatchBool, subst}
use Rattle.sqlite_rules.specs.Lists.{Has}
use Rattle.keys_roles.specs.Views.{id_text}
use Rattle.leaf_plans.specs.Book.{LeafRow}
use Rattle.signer.proofs.leaves.keeps.Goals as goal

pub returns : goal.returns
returns g c =
    subst (λ (es : List LeafRow). MatchBool c.is_among.result (Has es (record { key = id_text c.args.key.now; leaf = c.args.leaf; message = c.args.message.now }))
    (Has es (record { key = id_text c.args.key.now; leaf = c.args.leaf; message = c.args.message.now }) → ⊥)) c.kept.ensures c.is_among.ensures
