use Rattle.layouts.proofs.OneVerdict.{layout-definite}
use Rattle.layouts.proofs.laws.one_verdict.Goals as goal

pub returns : goal.returns
returns c = layout-definite
