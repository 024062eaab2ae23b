use Rattle.trust_rules.proofs.RootChains as chains
use Rattle.trust_rules.proofs.ShapedOnce.{Shapes}
use Rattle.trust_rules.proofs.laws.one_chain.Goals as goal

pub returns : goal.returns
returns c =
    let law : Shapes = record { document = c.one_document.ensures; none = c.one_shape.ensures.none; one = c.one_shape.ensures.one } in
    chains.one_chain law
