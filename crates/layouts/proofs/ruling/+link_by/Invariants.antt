use Rattle.std.proofs.Common.{length}
use Rattle.layouts.proofs.ruling.+link_by.Given as goal

abbrev pub decreases-link_by : goal.decreases-link_by
decreases-link_by c = length c.links.now
