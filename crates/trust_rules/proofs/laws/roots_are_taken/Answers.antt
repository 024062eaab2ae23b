use Rattle.trust_rules.proofs.OffersTell.{root_taken}
use Rattle.trust_rules.proofs.ShapedOnce.{Shapes}
use Rattle.trust_rules.proofs.laws.roots_are_taken.Goals as goal

pub returns : goal.returns
returns c T old new now j trusts read doc follows room h =
    let law : Shapes = record { document = c.one_document.ensures; none = c.one_shape.ensures.none; one = c.one_shape.ensures.one } in
    root_taken law T old new now trusts read doc follows room j h
