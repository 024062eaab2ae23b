use Rattle.std.proofs.Common.{subst}
use Rattle.std.specs.Fmt.{decimal}
use Rattle.http_messages.specs.steps.Cutting.{Lacks}
use Rattle.http_messages.proofs.Answered.{if-none}
use Rattle.http_messages.proofs.Frames.{lacks-none}
use Rattle.http_fetch.proofs.Numbers.{one_number}
use Rattle.http_fetch.proofs.cutting.number_before.Goals as goal

pub returns-in_err-digits-clause-none : goal.returns-in_err-digits-clause-none
returns-in_err-digits-clause-none c = if-none c.from_residual.result _ (λ n rest h e.
    lacks-none c.args.byte (decimal n) rest (subst (Lacks c.args.byte) e c.in_err-digits.ensures.none))

pub returns-in_err-number-clause-none : goal.returns-in_err-number-clause-none
returns-in_err-number-clause-none c = if-none c.from_residual-in_err-number.result _ (λ n rest h e.
    let cut = c.in_ok-digits.ensures.some in
    let one = one_number c.args.byte n c.args.text.now c.in_ok-digits.digits.now rest c.in_ok-digits.rest.now c.requires h cut.0 cut.1 e in
    c.in_err-number.ensures.none n h one.0)

pub returns-clause-some : goal.returns-clause-some
returns-clause-some c = λ n rest h e.
    let cut = c.in_ok-digits.ensures.some in
    let one = one_number c.args.byte n c.args.text.now c.in_ok-digits.digits.now rest c.in_ok-digits.rest.now c.requires h cut.0 cut.1 e in
    (c.in_ok-number.ensures.some n h one.0, one.1)
