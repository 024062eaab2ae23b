use Rattle.trust_rules.proofs.ShapedOnce.{Shapes}
use Rattle.trust_rules.proofs.RowsOfOneState.{unshelved}
use Rattle.trusted_state.proofs.stored.stored_row.Goals as goal

pub returns-in_default-2-clause-none : goal.returns-in_default-2-clause-none
returns-in_default-2-clause-none c =
    let law : Shapes = record { document = c.one_document.ensures; none = c.one_shape.ensures.none; one = c.one_shape.ensures.one } in
    unshelved law ((c.args.role.now, c.args.version), c.args.bytes.now) c.read_targets_file.result c.read_targets_file.ensures.fault (rw (c.in_default-2.is) at c.in_ok-file.ensures.none)
