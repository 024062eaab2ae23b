use Rattle.std.proofs.Common.{sym, ◌∙◌}
use Rattle.std.proofs.lemmas.Bool.{true≢false}
use Rattle.http_messages.proofs.Answered.{if-none}
use Rattle.http_fetch.proofs.Pieces.{accepted_is}
use Rattle.http_fetch.proofs.telling.read_accepted.Goals as goal

pub returns-in_err-accepted-clause-none : goal.returns-in_err-accepted-clause-none
returns-in_err-accepted-clause-none c = if-none c.from_residual.result _ (λ a b ha hb e. c.in_err-accepted.ensures.none a b ha hb (e ∙ accepted_is a b))

pub returns-else-is_same-clause-none : goal.returns-else-is_same-clause-none
returns-else-is_same-clause-none c = λ a b ha hb e.
    let told = c.in_ok-accepted.ensures.some a b ha hb (e ∙ accepted_is a b) in
    let same = told ∙ sym (accepted_is c.in_ok-accepted.accepted c.in_ok-accepted.same) ∙ sym c.accepted_body.ensures ∙ sym c.as_slice.ensures.value in
    true≢false (sym (c.is_same.ensures.other same) ∙ c.if-is_same.false)
