use Rattle.std.proofs.Common.{length}
use Rattle.layouts.proofs.gathering.+count_tops.Given as goal

abbrev pub decreases-count_tops : goal.decreases-count_tops
decreases-count_tops c = length c.goods.now
