use Rattle.granting.proofs.TargetFiles.{no_layout_tells}
use Rattle.granting.proofs.supporting.is_plain.Goals as goal

pub returns : goal.returns
returns c = no_layout_tells _ c.args.listing.now.layout _ c.is_none.ensures
