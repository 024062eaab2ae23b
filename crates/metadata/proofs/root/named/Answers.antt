use Rattle.std.proofs.lemmas.Result.{err_from_is_err_and}
use Rattle.document_parts.specs.steps.Tables.{spelled_table, spelled_rule}
use Rattle.document_parts.proofs.Named.{only_memory, ids_hex}
use Rattle.metadata.proofs.root.named.Goals as goal

pub returns-in_err-root-clause-err : goal.returns-in_err-root-clause-err
returns-in_err-root-clause-err c =
    let p = err_from_is_err_and c.from_residual-in_err-root.result c.from_residual-in_err-root.ensures.1 in
    rw (p.1, p.2) (only_memory _ c.in_err-root.ensures.err
    (ids_hex (spelled_table c.args.keys.now) (spelled_rule c.args.roles.now.root) c.requires.root c.in_ok-table.ensures.ok.2))

pub returns-in_err-targets-clause-err : goal.returns-in_err-targets-clause-err
returns-in_err-targets-clause-err c =
    let p = err_from_is_err_and c.from_residual-in_err-targets.result c.from_residual-in_err-targets.ensures.1 in
    rw (p.1, p.2) (only_memory _ c.in_err-targets.ensures.err
    (ids_hex (spelled_table c.args.keys.now) (spelled_rule c.args.roles.now.targets) c.requires.targets c.in_ok-table.ensures.ok.2))

pub returns-in_err-snapshot-clause-err : goal.returns-in_err-snapshot-clause-err
returns-in_err-snapshot-clause-err c =
    let p = err_from_is_err_and c.from_residual-in_err-snapshot.result c.from_residual-in_err-snapshot.ensures.1 in
    rw (p.1, p.2) (only_memory _ c.in_err-snapshot.ensures.err
    (ids_hex (spelled_table c.args.keys.now) (spelled_rule c.args.roles.now.snapshot) c.requires.snapshot c.in_ok-table.ensures.ok.2))

pub returns-in_err-timestamp-clause-err : goal.returns-in_err-timestamp-clause-err
returns-in_err-timestamp-clause-err c =
    let p = err_from_is_err_and c.from_residual-in_err-timestamp.result c.from_residual-in_err-timestamp.ensures.1 in
    rw (p.1, p.2) (only_memory _ c.in_err-timestamp.ensures.err
    (ids_hex (spelled_table c.args.keys.now) (spelled_rule c.args.roles.now.timestamp) c.requires.timestamp c.in_ok-table.ensures.ok.2))
