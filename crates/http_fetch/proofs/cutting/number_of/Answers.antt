use Rattle.std.proofs.Common.{◌≡◌, sym, ◌∙◌, subst}
use Rattle.std.proofs.lemmas.Fmt.{parse-decimal}
use Rattle.std.specs.Str.{IsUtf8}
use Rattle.http_fetch.proofs.Numbers.{number_utf8}
use Rattle.http_fetch.proofs.cutting.number_of.Goals as goal

pub returns-in_default-clause-none : goal.returns-in_default-clause-none
returns-in_default-clause-none c = λ n h e. c.in_default.ensures.cases.0 (subst IsUtf8 (sym e) (number_utf8 n h))

pub returns-in-Ok-parse-clause-some : goal.returns-in-Ok-parse-clause-some
returns-in-Ok-parse-clause-some c = λ n h e.
    let same : c.in-Ok.digits.now ≡ c.args.digits.now = c.in-Ok.ensures.cases.0 in
    let parsed = parse-decimal 64 n c.in-Ok.digits.now c.parse.result h h (same ∙ e) c.parse.ensures.value.0 in
    cc

pub returns-in-Err-clause-none : goal.returns-in-Err-clause-none
returns-in-Err-clause-none c = λ n h e.
    let same : c.in-Ok.digits.now ≡ c.args.digits.now = c.in-Ok.ensures.cases.0 in
    let parsed = parse-decimal 64 n c.in-Ok.digits.now c.parse.result h h (same ∙ e) c.parse.ensures.value.0 in
    cc
