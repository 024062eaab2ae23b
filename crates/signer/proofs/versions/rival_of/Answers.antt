use Rattle.std.proofs.Common.{ℕ, List, IfOk, MatchOption, subst}
use Rattle.keys_roles.specs.Views.{id_text}
use Rattle.leaf_plans.specs.Book.{LeafRow}
use Rattle.signer.specs.Versions.{IsRivalLeaf}
use Rattle.signer.proofs.versions.rival_of.Goals as goal

pub returns : goal.returns
returns g c =
    subst (λ (es : List LeafRow). IfOk c.rival_among.result (λ found. MatchOption found ((leaf : ℕ) → IsRivalLeaf es (id_text c.args.key.now) c.args.message.now leaf → ⊥)
    (λ leaf. IsRivalLeaf es (id_text c.args.key.now) c.args.message.now leaf))) c.kept.ensures c.rival_among.ensures
