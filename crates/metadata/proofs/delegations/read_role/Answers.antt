use Rattle.std.proofs.Common.{refl, inr}
use Rattle.metadata.proofs.delegations.read_role.Goals as goal

pub returns-in_default-bool_at-clause-err : goal.returns-in_default-bool_at-clause-err
returns-in_default-bool_at-clause-err c = inr (refl, λ d. c.in_default-bool_at.ensures d.0.terminating d.1.2)
