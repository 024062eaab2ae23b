use Rattle.trust_rules.proofs.ShapedOnce.{Shapes}
use Rattle.client.proofs.Anchors as anchors
use Rattle.client.proofs.laws.anchor_is_behind.Goals as goal

pub returns : goal.returns
returns c =
    let shapes : Shapes = record { document = c.one_document.ensures; none = c.one_shape.ensures.none; one = c.one_shape.ensures.one } in
    anchors.anchor_is_behind shapes
