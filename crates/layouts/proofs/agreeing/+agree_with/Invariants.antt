use Rattle.std.proofs.Common.{length}
use Rattle.layouts.proofs.agreeing.+agree_with.Given as goal

abbrev pub decreases-agree_with : goal.decreases-agree_with
decreases-agree_with c = length c.goods.now
