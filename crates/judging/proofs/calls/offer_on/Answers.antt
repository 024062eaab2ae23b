use Rattle.std.proofs.lemmas.Result.{err_from_is_err_and}
use Rattle.trusted_state.proofs.Carrying.{same_answers}
use Rattle.judging.proofs.calls.offer_on.Goals as goal

pub returns-clause-answers : goal.returns-clause-answers
returns-clause-answers c S valid is = same_answers c.in_ok-outcome.outcome c.with_verdicts.result (c.in_ok-outcome.ensures.answers S valid is) c.with_verdicts.ensures.same

pub returns-in_err-outcome-clause-answers : goal.returns-in_err-outcome-clause-answers
returns-in_err-outcome-clause-answers c S valid is =
    let p = err_from_is_err_and c.from_residual.result c.from_residual.ensures.1 in
    rw (p.1, p.2) (c.in_err-outcome.ensures.answers S valid is)
