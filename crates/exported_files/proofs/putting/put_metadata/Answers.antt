use Rattle.std.proofs.Common.{◌∙◌}
use Rattle.served_files.proofs.Telling.{on_ok}
use Rattle.exported_files.proofs.Doing.{did_put, did_stand}
use Rattle.exported_files.proofs.putting.put_metadata.Goals as goal

pub returns-then-has_bytes : goal.returns-then-has_bytes
returns-then-has_bytes g c = did_stand _ _ _ c.args.folder.now c.args.name.now c.args.bytes.now c.as_str.result.now
    (c.as_str.ensures.value ∙ c.in_ok-place.ensures) c.if-has_bytes.ensures.yes

pub returns : goal.returns
returns g c = on_ok c.put.result c.put.ensures (λ step.
    did_put _ _ _ _ c.args.folder.now c.args.name.now c.args.bytes.now c.as_str-2.result.now
    (c.as_str-2.ensures.value ∙ c.in_ok-place.ensures) c.if-has_bytes.ensures.no step)
