use Rattle.std.proofs.Common.{arith}
use Rattle.std.proofs.lemmas.List.{drop_all}
use Rattle.delegations.proofs.frames.Frames.clear.Goals as goal

pub returns : goal.returns
returns c = drop_all 32 c.self.inside.places (omega (arith, c.self.invariant.1))
