use Rattle.lms.specs.steps.Lanes.{AreDone}
use Rattle.lms.proofs.lanes.going_from.Given as goal

abbrev pub invariant-loop-i : goal.invariant-loop-i
invariant-loop-i l = AreDone l.chains l.start l.i
