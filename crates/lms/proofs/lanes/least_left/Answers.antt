use Rattle.std.proofs.Common.{arith}
use Rattle.lms.proofs.lanes.least_left.Goals as goal

pub returns-clause-most : goal.returns-clause-most
returns-clause-most c n h = omega (arith, h 0 (omega arith), h 1 (omega arith), h 2 (omega arith), h 3 (omega arith))
