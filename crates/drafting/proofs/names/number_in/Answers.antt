use Rattle.std.proofs.Common.{ℕ, Ok, Err, ◌∙◌}
use Rattle.drafting.proofs.Numbers.{number_at, number_utf8}
use Rattle.drafting.proofs.names.number_in.Goals as goal

pub returns-in_default-from_utf8-clause-none : goal.returns-in_default-from_utf8-clause-none
returns-in_default-from_utf8-clause-none c = λ part can n has.
    let f = c.in-Some.ensures.found part can in
    c.in_default-from_utf8.ensures.cases.0 (number_utf8 part c.args.signed.now c.args.name.now c.in-Some.spelled.now f.0 n can f.1 f.2 has)

pub returns-in_default-parse-clause-none : goal.returns-in_default-parse-clause-none
returns-in_default-parse-clause-none c = λ part can.
    let f = c.in-Some.ensures.found part can in
    number_at part c.args.signed.now c.args.name.now c.in-Ok.digits.now f.0 (Err c.in_default-parse.field-0) can f.1 (c.in-Ok.ensures.cases.0 ∙ f.2) c.in_default-parse.ensures.value.0

pub returns-clause-some : goal.returns-clause-some
returns-clause-some c = λ part can.
    let f = c.in-Some.ensures.found part can in
    number_at {E = ℕ} part c.args.signed.now c.args.name.now c.in-Ok.digits.now f.0 (Ok c.in-Ok-parse.number) can f.1 (c.in-Ok.ensures.cases.0 ∙ f.2) c.in-Ok-parse.ensures.value.0
