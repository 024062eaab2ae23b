use Rattle.std.proofs.Common.{◌≡◌, sym, ◌∙◌, ap, arith}
use Rattle.std.proofs.lemmas.Bool.{true≢false}
use Rattle.std.proofs.lemmas.Fmt.{parse-decimal}
use Rattle.std.specs.Fmt.{decimal}
use Rattle.mirrors.proofs.address.read_port.Goals as goal
use Rattle.mirrors.proofs.address.read_port.Goals.{else-port-gt0-via-then-port-gt0+else-is_spelt, else-port-gt0-via-else-port-gt0}

pub returns-in_default-clause-none : goal.returns-in_default-clause-none
returns-in_default-clause-none c p some few e =
    let parsed = parse-decimal 16 p c.args.digits.now c.parse.result (omega (arith, few)) (omega (arith, few)) e c.parse.ensures.value.0 in
    cc

pub returns-else-port-gt0-clause-none : goal.returns-else-port-gt0-clause-none
returns-else-port-gt0-clause-none c p some few e =
    let parsed = parse-decimal 16 p c.args.digits.now c.parse.result (omega (arith, few)) (omega (arith, few)) e c.parse.ensures.value.0 in
    let same : c.in-Ok.port ≡ p = cc in
    elim c.else-port-gt0.branch [
      | else-port-gt0-via-then-port-gt0+else-is_spelt w ↦ true≢false (sym (w.is_spelt.ensures.1 (e ∙ ap decimal (sym same))) ∙ w.if-is_spelt.false)
      | else-port-gt0-via-else-port-gt0 w ↦ omega (arith, some, same, w.if-port-gt0.false)
    ]
