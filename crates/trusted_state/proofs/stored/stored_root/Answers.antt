use Rattle.std.proofs.Common.{◌∙◌, sym}
use Rattle.metadata.specs.File.{root_form}
use Rattle.metadata.specs.FileViews.{root_file}
use Rattle.trust_rules.proofs.ShapedOnce.{Shapes, root-tells}
use Rattle.trust_rules.proofs.RowsOfOneState.{as_stored_root, file_of_root, other_profile, other_version, unstored}
use Rattle.trusted_state.proofs.stored.stored_root.Goals as goal

pub returns-in_default-clause-none : goal.returns-in_default-clause-none
returns-in_default-clause-none c f h =
    let law : Shapes = record { document = c.one_document.ensures; none = c.one_shape.ensures.none; one = c.one_shape.ensures.one } in
    unstored law root_form (λ b. b.version) (c.args.version, c.args.bytes.now) c.read_root_file.result c.read_root_file.ensures.fault
    (rw (c.in_default.is) at c.in_ok-file.ensures.none) f (file_of_root (c.args.version, (c.args.profile, c.args.bytes.now)) f h)

pub returns-then-file-version-clause-none : goal.returns-then-file-version-clause-none
returns-then-file-version-clause-none c f h =
    let law : Shapes = record { document = c.one_document.ensures; none = c.one_shape.ensures.none; one = c.one_shape.ensures.one } in
    let read = rw (c.in-Some.is) at c.in_ok-file.ensures.some in
    let file = rw (read) at c.read_root_file.ensures.file in
    other_version law root_form root-tells (λ b. b.version) c.args.version c.args.bytes.now (root_file c.in-Some.file) file.0 file.1 c.if-file-version.true
    f (file_of_root (c.args.version, (c.args.profile, c.args.bytes.now)) f h)

pub returns-then-profile_number-profile-clause-none : goal.returns-then-profile_number-profile-clause-none
returns-then-profile_number-profile-clause-none c =
    let law : Shapes = record { document = c.one_document.ensures; none = c.one_shape.ensures.none; one = c.one_shape.ensures.one } in
    let read = rw (c.in-Some.is) at c.in_ok-file.ensures.some in
    let file = rw (read) at c.read_root_file.ensures.file in
    other_profile law c.args.version c.args.profile c.args.bytes.now (root_file c.in-Some.file) file.0 file.1
    (λ e. c.if-profile_number-profile.true (c.profile_number.ensures ∙ e))

pub returns-clause-some : goal.returns-clause-some
returns-clause-some c =
    let read = rw (c.in-Some.is) at c.in_ok-file.ensures.some in
    let file = rw (read) at c.read_root_file.ensures.file in
    as_stored_root c.args.version c.args.profile c.args.bytes.now (root_file c.in-Some.file) file.0 c.if-file-version.false
    (sym c.profile_number.ensures ∙ c.if-profile_number-profile.false) file.1
