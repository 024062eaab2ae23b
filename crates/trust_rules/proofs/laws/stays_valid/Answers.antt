use Rattle.trust_rules.proofs.PrunedStates.{prune_valid}
use Rattle.trust_rules.proofs.ValidSteps.{init_valid, offer_valid, offer_roots, batch_valid, batch_roots, put_valid, state_valid, steps_valid, runs_valid}
use Rattle.trust_rules.proofs.laws.stays_valid.Goals as goal

pub returns-clause-begins : goal.returns-clause-begins
returns-clause-begins c = init_valid

pub returns-clause-offers : goal.returns-clause-offers
returns-clause-offers c = offer_valid c.snapshot_names.ensures.names

pub returns-clause-roots : goal.returns-clause-roots
returns-clause-roots c = offer_roots c.snapshot_names.ensures.names

pub returns-clause-batches : goal.returns-clause-batches
returns-clause-batches c = batch_valid c.snapshot_names.ensures.names

pub returns-clause-batch_roots : goal.returns-clause-batch_roots
returns-clause-batch_roots c = batch_roots c.snapshot_names.ensures.names

pub returns-clause-puts : goal.returns-clause-puts
returns-clause-puts c = put_valid

pub returns-clause-prunes : goal.returns-clause-prunes
returns-clause-prunes c = prune_valid

pub returns-clause-trusted : goal.returns-clause-trusted
returns-clause-trusted c = state_valid

pub returns-clause-steps : goal.returns-clause-steps
returns-clause-steps c = steps_valid c.snapshot_names.ensures.names

pub returns-clause-runs : goal.returns-clause-runs
returns-clause-runs c = runs_valid c.snapshot_names.ensures.names
