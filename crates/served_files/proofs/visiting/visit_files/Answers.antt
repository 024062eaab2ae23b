use Rattle.std.proofs.Common.{◌∙◌, Some, ap, sym}
use Rattle.served_files.specs.Served.{timestamp_name}
use Rattle.served_files.proofs.Files.{read_none, read_some}
use Rattle.served_files.proofs.InOrder.{timestamp_missing}
use Rattle.served_files.proofs.Telling.{became_behind, on_ok}
use Rattle.served_files.proofs.visiting.visit_files.Goals as goal

pub returns-in-Some : goal.returns-in-Some
returns-in-Some g c = on_ok c.visit_from.result c.visit_from.ensures (λ p.
    became_behind _ _ _ _ timestamp_name _ _ _ c.in_ok-bytes.ensures p (λ files xs found so.
    so (read_some _ _ _ c.in-Some.is found ∙ ap Some (sym c.deref.ensures.value))))

pub returns-in-None : goal.returns-in-None
returns-in-None g c = on_ok c.visit_roots.result c.visit_roots.ensures (λ p.
    became_behind _ _ _ _ timestamp_name _ _ _ c.in_ok-bytes.ensures p (λ files xs found roots.
    timestamp_missing files c.args.after c.args.last xs roots (read_none _ _ c.in-None.is found)))
