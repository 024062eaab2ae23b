use Rattle.std.proofs.Common.{sym, ◌∙◌}
use Rattle.state_parts.specs.Views.{trusted_view}
use Rattle.trusted_state.proofs.MetadataNames.{at_root, at_snapshot, past_snapshot, same_name}
use Rattle.trusted_state.proofs.held.Held.metadata_file.Goals as goal

pub returns-in-Some-root_named : goal.returns-in-Some-root_named
returns-in-Some-root_named c =
    sym (at_root (trusted_view c.trusted-trusted.result.now) c.as_bytes-name.result.now c.in-Some-root_named.bytes.now
    (sym c.in_default.ensures) (sym c.in-Some-root_named.ensures))
    ∙ same_name (trusted_view c.trusted-trusted.result.now) c.args.self.now.held.trusted c.as_bytes-name.result.now c.args.name.now c.trusted-trusted.ensures.view c.as_bytes-name.ensures.value

pub returns-in-Some-snapshot_named : goal.returns-in-Some-snapshot_named
returns-in-Some-snapshot_named c =
    sym (at_snapshot (trusted_view c.trusted-trusted.result.now) c.as_bytes-name.result.now c.in-Some-snapshot_named.bytes.now
    (sym c.in_default.ensures) (sym c.in_default-root_named.ensures) (sym c.in-Some-snapshot_named.ensures))
    ∙ same_name (trusted_view c.trusted-trusted.result.now) c.args.self.now.held.trusted c.as_bytes-name.result.now c.args.name.now c.trusted-trusted.ensures.view c.as_bytes-name.ensures.value

pub returns : goal.returns
returns c =
    (rw c.deref.ensures.value at c.row_named.ensures)
    ∙ (sym (past_snapshot (trusted_view c.trusted-trusted.result.now) c.as_bytes-name.result.now
    (sym c.in_default.ensures) (sym c.in_default-root_named.ensures) (sym c.in_default-snapshot_named.ensures))
    ∙ same_name (trusted_view c.trusted-trusted.result.now) c.args.self.now.held.trusted c.as_bytes-name.result.now c.args.name.now c.trusted-trusted.ensures.view c.as_bytes-name.ensures.value)
