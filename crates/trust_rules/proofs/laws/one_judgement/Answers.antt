use Rattle.trust_rules.proofs.OneJudgement.{init-definite, offer-definite, batch-definite, blob-definite, prune-definite, grants-definite, steps-definite}
use Rattle.trust_rules.proofs.ShapedOnce.{Shapes}
use Rattle.trust_rules.proofs.laws.one_judgement.Goals as goal

shapes : (c : goal.After-one_verdict) → Shapes
shapes c = record { document = c.one_document.ensures; none = c.one_shape.ensures.none; one = c.one_shape.ensures.one }

pub returns-clause-begins : goal.returns-clause-begins
returns-clause-begins c = init-definite (shapes c)

pub returns-clause-offers : goal.returns-clause-offers
returns-clause-offers c = offer-definite (shapes c)

pub returns-clause-batches : goal.returns-clause-batches
returns-clause-batches c = batch-definite (shapes c)

pub returns-clause-puts : goal.returns-clause-puts
returns-clause-puts c = blob-definite

pub returns-clause-prunes : goal.returns-clause-prunes
returns-clause-prunes c = prune-definite

pub returns-clause-targets : goal.returns-clause-targets
returns-clause-targets c = grants-definite (shapes c) c.one_verdict.ensures

pub returns-clause-steps : goal.returns-clause-steps
returns-clause-steps c = steps-definite (shapes c) c.one_verdict.ensures
