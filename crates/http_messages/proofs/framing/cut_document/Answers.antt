use Rattle.std.proofs.Common.{◌≡◌, ℕ, List, ◌++◌, length, ap, sym, ◌∙◌, arith, subst, length-append}
use Rattle.std.specs.Fmt.{decimal}
use Rattle.http_messages.specs.steps.Cutting.{Lacks}
use Rattle.http_messages.proofs.Answered.{if-none}
use Rattle.http_messages.proofs.Frames.{has-space, lacks-none, behind-name, behind-digits, one-length}
use Rattle.http_messages.proofs.framing.cut_document.Goals as goal

pub returns-in_err-name-clause-none : goal.returns-in_err-name-clause-none
returns-in_err-name-clause-none c = if-none c.from_residual.result _ (λ d more o. has-space c.args.text.now d more o c.in_err-name.ensures.none)

pub returns-in_err-digits-clause-none : goal.returns-in_err-digits-clause-none
returns-in_err-digits-clause-none c = if-none c.from_residual-in_err-digits.result _ (λ d more o.
    let (name, rest) = behind-name c.args.text.now d more c.in_ok-name.name.now c.in_ok-name.behind_name.now o c.in_ok-name.ensures.some.0 c.in_ok-name.ensures.some.1 in
    lacks-none 10 (decimal (length d.1)) (d.1 ++ more) (subst (Lacks 10) (sym rest) c.in_err-digits.ensures.none))

pub returns-in_err-len-clause-none : goal.returns-in_err-len-clause-none
returns-in_err-len-clause-none c = if-none c.from_residual-in_err-len.result _ (λ d more o.
    let (name, rest) = behind-name c.args.text.now d more c.in_ok-name.name.now c.in_ok-name.behind_name.now o c.in_ok-name.ensures.some.0 c.in_ok-name.ensures.some.1 in
    let (digits, bytes) = behind-digits (length d.1) (d.1 ++ more) c.in_ok-digits.digits.now c.in_ok-digits.behind_digits.now o.stands.short (rest ∙ c.in_ok-digits.ensures.some.0) c.in_ok-digits.ensures.some.1 in
    c.in_err-len.ensures.none (length d.1) o.stands.short (sym digits))

pub returns-in_err-bytes-clause-none : goal.returns-in_err-bytes-clause-none
returns-in_err-bytes-clause-none c = if-none c.from_residual-in_err-bytes.result _ (λ d more o.
    let (name, rest) = behind-name c.args.text.now d more c.in_ok-name.name.now c.in_ok-name.behind_name.now o c.in_ok-name.ensures.some.0 c.in_ok-name.ensures.some.1 in
    let (digits, bytes) = behind-digits (length d.1) (d.1 ++ more) c.in_ok-digits.digits.now c.in_ok-digits.behind_digits.now o.stands.short (rest ∙ c.in_ok-digits.ensures.some.0) c.in_ok-digits.ensures.some.1 in
    let len = c.in_ok-len.ensures.some in
    let same : length d.1 ≡ c.in_ok-len.len = one-length (length d.1) c.in_ok-len.len o.stands.short len.1 (digits ∙ len.0) in
    let whole : length (d.1 ++ more) ≡ length c.in_ok-digits.behind_digits.now = ap (λ (l : List ℕ). length l) bytes in
    let less = c.in_err-bytes.ensures.cases in
    omega (arith, same, less, simp length-append at whole))
