use Rattle.metadata.specs.File.{snapshot_form}
use Rattle.metadata.specs.FileViews.{snapshot_file}
use Rattle.trust_rules.proofs.ShapedOnce.{Shapes, snapshot-tells}
use Rattle.trust_rules.proofs.RowsOfOneState.{as_stored, unstored, other_version}
use Rattle.trusted_state.proofs.stored.stored_snapshot.Goals as goal

pub returns-in_default-clause-none : goal.returns-in_default-clause-none
returns-in_default-clause-none c =
    let law : Shapes = record { document = c.one_document.ensures; none = c.one_shape.ensures.none; one = c.one_shape.ensures.one } in
    unstored law snapshot_form (λ b. b.version) (c.args.version, c.args.bytes.now) c.read_snapshot_file.result c.read_snapshot_file.ensures.fault (rw (c.in_default.is) at c.in_ok-file.ensures.none)

pub returns-then-file-version-clause-none : goal.returns-then-file-version-clause-none
returns-then-file-version-clause-none c =
    let law : Shapes = record { document = c.one_document.ensures; none = c.one_shape.ensures.none; one = c.one_shape.ensures.one } in
    let read = rw (c.in-Some.is) at c.in_ok-file.ensures.some in
    let file = rw (read) at c.read_snapshot_file.ensures.file in
    other_version law snapshot_form snapshot-tells (λ b. b.version) c.args.version c.args.bytes.now (snapshot_file c.in-Some.file) file.0 file.1 c.if-file-version.true

pub returns-clause-some : goal.returns-clause-some
returns-clause-some c =
    let read = rw (c.in-Some.is) at c.in_ok-file.ensures.some in
    let file = rw (read) at c.read_snapshot_file.ensures.file in
    as_stored snapshot_form (λ b. b.version) c.args.version c.args.bytes.now (snapshot_file c.in-Some.file) file.0 c.if-file-version.false file.1
