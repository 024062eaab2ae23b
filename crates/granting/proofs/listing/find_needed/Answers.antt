use Rattle.std.proofs.lemmas.Result.{err_from_is_err_and}
use Rattle.denials.specs.Orders.{decide, fails, given, holds, pass}
use Rattle.trusted_state.specs.Answers.{denies, gives}
use Rattle.trust_rules.proofs.OrderLines.{no, yes}
use Rattle.trusted_state.proofs.OrderSteps.{denied_in, given_by}
use Rattle.granting.proofs.listing.find_needed.Goals as goal

pub returns-in_err-found-clause-answer : goal.returns-in_err-found-clause-answer
returns-in_err-found-clause-answer c =
    let p = err_from_is_err_and c.from_residual.result c.from_residual.ensures.1 in
    rw (p.1, p.2) (denied_in c.in_err-found.ensures.answer)

pub returns-then-not-has_needed-clause-answer : goal.returns-then-not-has_needed-clause-answer
returns-then-not-has_needed-clause-answer c = denies (pass (given_by c.in_ok-found.ensures.answer) (decide (fails (no c.if-not-has_needed.ensures))))

pub returns-clause-answer : goal.returns-clause-answer
returns-clause-answer c = gives (pass (given_by c.in_ok-found.ensures.answer) (pass (holds (yes c.if-not-has_needed.ensures)) given))
