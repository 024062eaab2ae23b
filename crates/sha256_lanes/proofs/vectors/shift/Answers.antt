use Rattle.sha256_lanes.proofs.LaneLemmas.{shifts_right}
use Rattle.sha256_lanes.proofs.vectors.shift.Goals as goal

pub returns : goal.returns
returns c = shifts_right c.args.k c.requires c.args.x c.fits-x.0
