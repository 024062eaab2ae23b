use Rattle.std.proofs.Common.{arith}
use Rattle.drafting.proofs.Rows.{none_named}
use Rattle.drafting.proofs.members.place_of.Goals as goal

pub returns : goal.returns
returns c =
    none_named c.args.members.now c.args.name.now (λ k lt d. c.loop-i.invariant k (omega arith) d)
