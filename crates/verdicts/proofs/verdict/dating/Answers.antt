use Rattle.verdicts.proofs.verdict.dating.Goals as goal

pub returns-in-None : goal.returns-in-None
returns-in-None c = λ seconds is. (let some = c.in-None.ensures.only seconds is in cc)
