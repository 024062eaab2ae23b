use Rattle.document_parts.specs.Views.{document_view}
use Rattle.document_parts.specs.declared.documents.Kind.TheVariants as kinds
use Rattle.served_files.specs.Served.{metadata}
use Rattle.served_files.proofs.Files.{no_document, only_body}
use Rattle.served_files.proofs.InOrder.{role_unsaid}
use Rattle.served_files.proofs.Telling.{became_as, became_one, on_ok}
use Rattle.served_files.proofs.visiting.visit_targets.Goals as goal

pub visit_targets_body-requires : goal.visit_targets_body-requires
visit_targets_body-requires g c = only_body c.one_document.ensures kinds.Targets c.args.bytes.now (document_view c.in-Ok.document) c.in-Ok.ensures.document

pub visit_metadata-requires : goal.visit_metadata-requires
visit_metadata-requires g c = no_document c.one_shape.ensures.none kinds.Targets c.args.bytes.now c.in-Err.fault c.in-Err.ensures.fault c.in_ok-unless_memory-in-Err.ensures.well

pub returns-in_ok-unless_memory-in-Err : goal.returns-in_ok-unless_memory-in-Err
returns-in_ok-unless_memory-in-Err g c = on_ok c.visit_metadata.result c.visit_metadata.ensures (λ step.
    became_as _ _ _ _ _ (became_one _ _ _ (metadata kinds.Targets c.args.name.now c.args.bytes.now) step) (λ files xs told held.
    role_unsaid files c.args.name.now c.args.bytes.now xs told held (no_document c.one_shape.ensures.none kinds.Targets c.args.bytes.now c.in-Err.fault c.in-Err.ensures.fault c.in_ok-unless_memory-in-Err.ensures.well)))
