use Rattle.std.proofs.lemmas.Result.{err_from_is_err_and}
use Rattle.document_parts.specs.steps.Tables.{spelled_rule, spelled_table}
use Rattle.document_parts.proofs.Named.{ids_hex, only_memory}
use Rattle.metadata.proofs.references.name_reference.Goals as goal

pub returns-in_err-owners-clause-err : goal.returns-in_err-owners-clause-err
returns-in_err-owners-clause-err c =
    let p = err_from_is_err_and c.from_residual-in_err-owners.result c.from_residual-in_err-owners.ensures.1 in
    let hex = ids_hex (spelled_table c.args.spelled.keys) (spelled_rule c.args.spelled.owners) c.requires c.in_ok-table.ensures.ok.2 in
    rw (p.1, p.2) (only_memory _ c.in_err-owners.ensures.err hex)
