use Rattle.trust_rules.proofs.ShapedOnce.{Shapes}
use Rattle.store.proofs.Reopening.{never_damaged, stands_once, whole_stands}
use Rattle.store.proofs.laws.trees_tell_state.Goals as goal

pub returns-clause-whole : goal.returns-clause-whole
returns-clause-whole c = whole_stands

pub returns-clause-once : goal.returns-clause-once
returns-clause-once c =
    let law : Shapes = record { document = c.one_document.ensures; none = c.one_shape.ensures.none; one = c.one_shape.ensures.one } in
    stands_once law

pub returns-clause-sound : goal.returns-clause-sound
returns-clause-sound c =
    let law : Shapes = record { document = c.one_document.ensures; none = c.one_shape.ensures.none; one = c.one_shape.ensures.one } in
    never_damaged law
