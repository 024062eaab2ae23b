use Rattle.trusted_state.specs.Answers.{gives}
use Rattle.granting.proofs.TargetFiles.{refused_as}
use Rattle.granting.proofs.listing.find.Goals as goal

pub returns-in-Ok-clause-answer : goal.returns-in-Ok-clause-answer
returns-in-Ok-clause-answer c = gives c.in-Ok.ensures.answer

pub returns-in-Err-clause-answer : goal.returns-in-Err-clause-answer
returns-in-Err-clause-answer c = refused_as c.in-Err.ensures.answer c.search_refusal.ensures
