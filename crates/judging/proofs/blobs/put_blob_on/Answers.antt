use Rattle.trusted_state.proofs.Carrying.{same_answers}
use Rattle.judging.proofs.blobs.put_blob_on.Goals as goal

pub returns-clause-answers : goal.returns-clause-answers
returns-clause-answers c S valid is = same_answers c.in_ok-outcome.outcome c.with_verdicts.result (c.in_ok-outcome.ensures.answers S valid is) c.with_verdicts.ensures.same
