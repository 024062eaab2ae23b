use Rattle.verdicts.proofs.verdict.answer.Goals as goal

pub returns-clause-verdict : goal.returns-clause-verdict
returns-clause-verdict c = (c.in_ok-case.case, c.in_ok-case.ensures.case, c.in_ok-judge.ensures)
