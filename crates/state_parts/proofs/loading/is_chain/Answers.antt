use Rattle.std.proofs.Common.{map}
use Rattle.metadata.specs.FileViews.{root_file}
use Rattle.trust_rules.proofs.RootChains.{chain_tells}
use Rattle.trust_rules.proofs.ShapedOnce.{Shapes}
use Rattle.state_parts.proofs.loading.is_chain.Goals as goal

pub returns : goal.returns
returns c =
    let fs = map root_file c.args.roots.now in
    let shapes : Shapes = record { document = c.one_document.ensures; none = c.one_shape.ensures.none; one = c.one_shape.ensures.one } in
    let tells = chain_tells shapes fs c.requires in
    ((λ t. tells.0 (c.are_chained.ensures.0 t)), (λ h. c.are_chained.ensures.1 (tells.1 h)))
