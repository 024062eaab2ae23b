use Rattle.trust_rules.proofs.ShapedOnce.{Shapes}
use Rattle.trust_rules.proofs.RowsOfOneState as standing
use Rattle.trust_rules.proofs.laws.rows_stay.Goals as goal

pub returns : goal.returns
returns c =
    let law : Shapes = record { document = c.one_document.ensures; none = c.one_shape.ensures.none; one = c.one_shape.ensures.one } in
    standing.rows_stay law
