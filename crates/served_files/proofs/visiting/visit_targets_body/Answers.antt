use Rattle.document_parts.specs.declared.documents.Kind.TheVariants as kinds
use Rattle.served_files.specs.Served.{metadata}
use Rattle.served_files.proofs.InOrder.{role_said}
use Rattle.served_files.proofs.Telling.{became_both, became_one, on_ok}
use Rattle.served_files.proofs.visiting.visit_targets_body.Goals as goal

pub visit_metadata-requires : goal.visit_metadata-requires
visit_metadata-requires g c = c.requires

pub returns : goal.returns
returns g c = on_ok c.visit_metadata.result c.visit_metadata.ensures (λ step.
    became_both _ _ _ _ _ _ _ c.in_ok-visit_listings_of.ensures (became_one _ _ _ (metadata kinds.Targets c.args.name.now c.args.bytes.now) step)
    (λ files xs ys just told held. role_said files _ _ _ xs ys just told held c.requires))
