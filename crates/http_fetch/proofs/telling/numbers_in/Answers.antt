use Rattle.std.proofs.Common.{[], ◌∷◌, ◌++◌, sym, ◌∙◌}
use Rattle.std.proofs.lemmas.List.{append_cancel_left}
use Rattle.std.specs.Fmt.{decimal}
use Rattle.http_messages.proofs.Answered.{if-none}
use Rattle.http_fetch.proofs.Pieces.{same_numbers}
use Rattle.http_fetch.proofs.telling.numbers_in.Goals as goal

pub returns-in_err-first-clause-none : goal.returns-in_err-first-clause-none
returns-in_err-first-clause-none c = if-none c.from_residual-in_err-first.result _ (λ a b ha hb e.
    c.in_err-first.ensures.none a (c.args.between.now ++ (decimal b ++ (125 ∷ []))) ha (append_cancel_left c.args.front.now c.in_ok-rest.rest.now _ (sym c.in_ok-rest.ensures ∙ e)))

pub returns-in_err-rest-2-clause-none : goal.returns-in_err-rest-2-clause-none
returns-in_err-rest-2-clause-none c = if-none c.from_residual-in_err-rest-2.result _ (λ a b ha hb e.
    let first = c.in_ok-first.ensures.some a (c.args.between.now ++ (decimal b ++ (125 ∷ []))) ha (append_cancel_left c.args.front.now c.in_ok-rest.rest.now _ (sym c.in_ok-rest.ensures ∙ e)) in
    c.in_err-rest-2.ensures (decimal b ++ (125 ∷ [])) (sym first.1))

pub returns-in_err-second-clause-none : goal.returns-in_err-second-clause-none
returns-in_err-second-clause-none c = if-none c.from_residual-in_err-second.result _ (λ a b ha hb e.
    let first = c.in_ok-first.ensures.some a (c.args.between.now ++ (decimal b ++ (125 ∷ []))) ha (append_cancel_left c.args.front.now c.in_ok-rest.rest.now _ (sym c.in_ok-rest.ensures ∙ e)) in
    let later = append_cancel_left c.args.between.now (decimal b ++ (125 ∷ [])) c.in_ok-rest-2.rest.now (first.1 ∙ c.in_ok-rest-2.ensures) in
    c.in_err-second.ensures.none b [] hb (sym later))

pub returns-clause-some : goal.returns-clause-some
returns-clause-some c = λ a b ha hb e.
    let first = c.in_ok-first.ensures.some a (c.args.between.now ++ (decimal b ++ (125 ∷ []))) ha (append_cancel_left c.args.front.now c.in_ok-rest.rest.now _ (sym c.in_ok-rest.ensures ∙ e)) in
    let later = append_cancel_left c.args.between.now (decimal b ++ (125 ∷ [])) c.in_ok-rest-2.rest.now (first.1 ∙ c.in_ok-rest-2.ensures) in
    let second = c.in_ok-second.ensures.some b [] hb (sym later) in
    e ∙ same_numbers c.args.front.now c.args.between.now a c.in_ok-first.first b c.in_ok-second.second first.0 second.0
