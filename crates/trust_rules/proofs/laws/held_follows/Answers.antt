use Rattle.trust_rules.proofs.HeldStates.{held_applied, held_valid}
use Rattle.trust_rules.proofs.laws.held_follows.Goals as goal

pub returns-clause-valid : goal.returns-clause-valid
returns-clause-valid c = held_valid

pub returns-clause-applied : goal.returns-clause-applied
returns-clause-applied c = held_applied

pub returns-clause-steps : goal.returns-clause-steps
returns-clause-steps c S T command now reply valid step = held_valid T (c.stays_valid.ensures.steps S T command now reply valid step)
