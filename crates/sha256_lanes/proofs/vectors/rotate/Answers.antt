use Rattle.sha256_lanes.proofs.LaneLemmas.{shifts_rotate}
use Rattle.sha256_lanes.proofs.vectors.rotate.Goals as goal

pub returns : goal.returns
returns c = shifts_rotate c.args.k c.requires.low c.requires.high c.args.x c.fits-x.0
