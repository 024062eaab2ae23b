use Rattle.std.proofs.Common.{length}
use Rattle.layouts.proofs.gathering.+is_among.Given as goal

abbrev pub decreases-is_among : goal.decreases-is_among
decreases-is_among c = length c.goods.now
