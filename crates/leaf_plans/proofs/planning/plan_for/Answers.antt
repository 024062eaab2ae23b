use Rattle.std.proofs.Common.{arith}
use Rattle.leaf_plans.proofs.planning.plan_for.Goals as goal

pub returns-in-None : goal.returns-in-None
returns-in-None c =
    ((c.in-Some.params, c.in-Some.ensures, λ leaf below. c.in-None.ensures leaf (omega (arith, below, c.leaves_of.ensures.value))), λ leaf h. c.in_default-leaf_for.ensures leaf h)
