use Rattle.machine.proofs.PrunedAnswers.{answers_same}
use Rattle.trust_rules.proofs.PrunedStates.{prune_alike, prune_valid}
use Rattle.machine.proofs.laws.prune_keeps_answers.Goals as goal

pub returns-clause-grants : goal.returns-clause-grants
returns-clause-grants c = prune_alike c.search_is_sound.ensures

pub returns-clause-answers : goal.returns-clause-answers
returns-clause-answers c S T valid prunes =
    answers_same S T valid (prune_valid S T valid prunes) (prune_alike c.search_is_sound.ensures S T prunes) c.one_judgement.ensures.targets
