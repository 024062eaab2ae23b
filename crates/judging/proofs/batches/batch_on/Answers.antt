use Rattle.trusted_state.proofs.Carrying.{same_batch}
use Rattle.judging.proofs.batches.batch_on.Goals as goal

pub returns-clause-answers : goal.returns-clause-answers
returns-clause-answers c S valid is = same_batch c.in_ok-batched.batched c.batch_with_verdicts.result (c.in_ok-batched.ensures.answers S valid is) c.batch_with_verdicts.ensures.same
