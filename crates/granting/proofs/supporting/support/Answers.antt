use Rattle.std.proofs.lemmas.Result.{err_from_is_err_and}
use Rattle.denials.specs.Orders.{decide, fails, given, holds, pass}
use Rattle.trusted_state.specs.Answers.{denies, gives}
use Rattle.trust_rules.proofs.HeldStates.{lengths_are}
use Rattle.trust_rules.proofs.OrderLines.{no, yes}
use Rattle.trusted_state.proofs.OrderSteps.{denied_behind, denied_in, given_by}
use Rattle.granting.proofs.supporting.support.Goals as goal

pub returns-in_err-found-clause-answer : goal.returns-in_err-found-clause-answer
returns-in_err-found-clause-answer c S valid is =
    let p = err_from_is_err_and c.from_residual.result c.from_residual.ensures.1 in
    rw (p.1, p.2) (denied_in c.in_err-found.ensures.answer)

pub returns-in_err-digest-clause-answer : goal.returns-in_err-digest-clause-answer
returns-in_err-digest-clause-answer c S valid is =
    let p = err_from_is_err_and c.from_residual-in_err-digest.result c.from_residual-in_err-digest.ensures.1 in
    rw (p.1, p.2) (denied_behind _ (given_by c.in_ok-found.ensures.answer) (denied_in (c.in_err-digest.ensures.answer S (lengths_are S is c.lengths.ensures.view))))

pub returns-then-not-is_plain-clause-answer : goal.returns-then-not-is_plain-clause-answer
returns-then-not-is_plain-clause-answer c S valid is =
    denies (pass (given_by c.in_ok-found.ensures.answer) (pass (given_by (c.in_ok-digest.ensures.answer S (lengths_are S is c.lengths.ensures.view))) (decide (fails (no c.if-not-is_plain.ensures)))))

pub returns-clause-answer : goal.returns-clause-answer
returns-clause-answer c S valid is =
    gives (pass (given_by c.in_ok-found.ensures.answer) (pass (given_by (c.in_ok-digest.ensures.answer S (lengths_are S is c.lengths.ensures.view))) (pass (holds (yes c.if-not-is_plain.ensures)) given)))
