use Rattle.std.proofs.Common.{inl, inr}
use Rattle.denials.specs.Orders.{given}
use Rattle.trusted_state.specs.steps.Judging.{accepts}
use Rattle.judging.proofs.following.follows.Goals as goal

pub returns-in-Targets : goal.returns-in-Targets
returns-in-Targets c = elim c.in-Targets.is [
  | inl e ↦ rw e (accepts given)
  | inr others ↦ elim others [ inl e ↦ rw e (accepts given) | inr e ↦ rw e (accepts given) ]
]
