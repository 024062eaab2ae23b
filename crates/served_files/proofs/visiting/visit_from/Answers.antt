use Rattle.document_parts.specs.Views.{document_view}
use Rattle.document_parts.specs.declared.documents.Kind.TheVariants as kinds
use Rattle.served_files.specs.Served.{metadata, timestamp_name}
use Rattle.served_files.proofs.Files.{no_document, only_body}
use Rattle.served_files.proofs.InOrder.{timestamp_unsaid}
use Rattle.served_files.proofs.Telling.{became_both, became_one, on_ok}
use Rattle.served_files.proofs.visiting.visit_from.Goals as goal

pub visit_timestamp-requires : goal.visit_timestamp-requires
visit_timestamp-requires g c = only_body c.one_document.ensures kinds.Timestamp c.args.bytes.now (document_view c.in-Ok.document) c.in-Ok.ensures.document

pub visit_metadata-requires : goal.visit_metadata-requires
visit_metadata-requires g c = no_document c.one_shape.ensures.none kinds.Timestamp c.args.bytes.now c.in-Err.fault c.in-Err.ensures.fault c.in_ok-unless_memory-in-Err.ensures.well

pub returns-in_ok-visit_roots-in-Err : goal.returns-in_ok-visit_roots-in-Err
returns-in_ok-visit_roots-in-Err g c = on_ok c.visit_metadata.result c.visit_metadata.ensures (λ step.
    became_both _ _ _ _ _ _ _ c.in_ok-visit_roots-in-Err.ensures (became_one _ _ _ (metadata kinds.Timestamp timestamp_name c.args.bytes.now) step)
    (λ files xs ys roots told held. timestamp_unsaid files c.args.after c.args.last c.args.bytes.now xs ys roots told held (no_document c.one_shape.ensures.none kinds.Timestamp c.args.bytes.now c.in-Err.fault c.in-Err.ensures.fault c.in_ok-unless_memory-in-Err.ensures.well)))
