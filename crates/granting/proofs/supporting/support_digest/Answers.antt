use Rattle.granting.proofs.TargetFiles.{supporting_denied, supporting_given}
use Rattle.granting.proofs.supporting.support_digest.Goals as goal

pub returns-in-Ok-clause-answer : goal.returns-in-Ok-clause-answer
returns-in-Ok-clause-answer c S at = supporting_given _ (c.in-Ok.ensures.answer S at)

pub returns-in-Err-clause-answer : goal.returns-in-Err-clause-answer
returns-in-Err-clause-answer c S at = supporting_denied _ _ (c.in-Err.ensures.answer S at) c.supporting.ensures
