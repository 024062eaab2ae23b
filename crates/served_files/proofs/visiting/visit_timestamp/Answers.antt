use Rattle.document_parts.specs.declared.documents.Kind.TheVariants as kinds
use Rattle.served_files.specs.Served.{metadata, timestamp_name}
use Rattle.served_files.proofs.InOrder.{timestamp_said}
use Rattle.served_files.proofs.Telling.{became_one, became_three, on_ok}
use Rattle.served_files.proofs.visiting.visit_timestamp.Goals as goal

pub visit_metadata-requires : goal.visit_metadata-requires
visit_metadata-requires g c = c.requires

pub returns : goal.returns
returns g c = on_ok c.visit_metadata.result c.visit_metadata.ensures (λ step.
    became_three _ _ _ _ _ _ _ _ _ c.in_ok-visit_named.ensures c.in_ok-visit_roots.ensures (became_one _ _ _ (metadata kinds.Timestamp timestamp_name c.args.bytes.now) step)
    (λ files xs rs ys named roots told held. timestamp_said files c.args.after c.args.last c.args.bytes.now _ xs rs ys named roots told held c.requires))
