use Rattle.document_parts.specs.steps.Tables.{spelled_table}
use Rattle.metadata.specs.steps.Spelled.{spelled_list}
use Rattle.document_parts.proofs.Named.{each_ids_hex}
use Rattle.metadata.proofs.delegations.name_delegations.Goals as goal

pub name_roles-requires : goal.name_roles-requires
name_roles-requires c = each_ids_hex (λ d. d.rule) (spelled_table c.args.spelled.keys) (spelled_list c.args.spelled.roles.items) c.requires c.in_ok-table.ensures.ok.2
