use Rattle.std.proofs.Common.{◌≡◌, ◌++◌, sym, ◌∙◌, arith}
use Rattle.std.specs.Prelude.{codes}
use Rattle.std.proofs.lemmas.List.{append_cancel_left, append_cancel_right}
use Rattle.http_messages.proofs.Answered.{if-none}
use Rattle.http_fetch.proofs.Pieces.{after_denial, behind_number, same_denial}
use Rattle.http_fetch.proofs.telling.denial_in.Goals as goal

pub returns-in_err-index-clause-none : goal.returns-in_err-index-clause-none
returns-in_err-index-clause-none c = if-none c.from_residual-in_err-index.result _ (λ number index name hn hi hl e.
    let at = c.in_ok-number.ensures.some number (behind_number index name) (omega (arith, hn)) (after_denial number index name c.args.body.now c.in_ok-rest.rest.now c.in_ok-rest.ensures e) in
    c.in_err-index.ensures.none index (name ++ codes "\"}") hi (sym at.1))

pub returns-in_err-rest-2-clause-none : goal.returns-in_err-rest-2-clause-none
returns-in_err-rest-2-clause-none c = if-none c.from_residual-in_err-rest-2.result _ (λ number index name hn hi hl e.
    let at = c.in_ok-number.ensures.some number (behind_number index name) (omega (arith, hn)) (after_denial number index name c.args.body.now c.in_ok-rest.rest.now c.in_ok-rest.ensures e) in
    let place = c.in_ok-index.ensures.some index (name ++ codes "\"}") hi (sym at.1) in
    c.in_err-rest-2.ensures (name ++ codes "\"}") (sym place.1))

pub returns-in_err-name-clause-none : goal.returns-in_err-name-clause-none
returns-in_err-name-clause-none c = if-none c.from_residual-in_err-name.result _ (λ number index name hn hi hl e.
    let at = c.in_ok-number.ensures.some number (behind_number index name) (omega (arith, hn)) (after_denial number index name c.args.body.now c.in_ok-rest.rest.now c.in_ok-rest.ensures e) in
    let place = c.in_ok-index.ensures.some index (name ++ codes "\"}") hi (sym at.1) in
    let end = append_cancel_left (codes "\"rule\":\"") (name ++ codes "\"}") c.in_ok-rest-2.rest.now (place.1 ∙ c.in_ok-rest-2.ensures) in
    c.in_err-name.ensures.none name hl (sym end))

pub returns-clause-some : goal.returns-clause-some
returns-clause-some c = λ number index name hn hi hl e.
    let at = c.in_ok-number.ensures.some number (behind_number index name) (omega (arith, hn)) (after_denial number index name c.args.body.now c.in_ok-rest.rest.now c.in_ok-rest.ensures e) in
    let place = c.in_ok-index.ensures.some index (name ++ codes "\"}") hi (sym at.1) in
    let end = append_cancel_left (codes "\"rule\":\"") (name ++ codes "\"}") c.in_ok-rest-2.rest.now (place.1 ∙ c.in_ok-rest-2.ensures) in
    let told = append_cancel_right name c.in_ok-name.name.now (codes "\"}") (end ∙ c.in_ok-name.ensures.some) in
    let small : number ≡ c.in-Ok.number = at.0 ∙ sym c.in-Ok.ensures.1 in
    e ∙ same_denial number c.in-Ok.number index c.in_ok-index.index name c.in_ok-name.name.now small place.0 told
