use Rattle.document_parts.specs.steps.Tables.{spelled_table}
use Rattle.layout_files.specs.steps.Spelled.{spelled_steps}
use Rattle.document_parts.proofs.Named.{each_ids_hex}
use Rattle.layout_files.proofs.layout.named.Goals as goal

pub name_steps-requires : goal.name_steps-requires
name_steps-requires c = each_ids_hex (λ s. s.rule) (spelled_table c.args.keys.now) (spelled_steps c.args.steps.items) c.requires c.in_ok-table.ensures.ok.2
