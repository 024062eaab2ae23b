use Rattle.std.proofs.Common.{sym, ◌∙◌, arith}
use Rattle.std.proofs.lemmas.Bool.{true≢false}
use Rattle.std.proofs.lemmas.Str.Pattern.{split_parts}
use Rattle.mirrors.specs.Address.{alone}
use Rattle.mirrors.proofs.Reading.{if_none, no_host, other_host, other_port, numbered_by}
use Rattle.mirrors.proofs.address.read_authority.Goals as goal

pub returns-then-is_host-clause-some : goal.returns-then-is_host-clause-some
returns-then-is_host-clause-some c = (c.is_host.ensures.0 c.if-is_host.true, alone)

pub returns-else-is_host-clause-none : goal.returns-else-is_host-clause-none
returns-else-is_host-clause-none c =
    let parts = split_parts 58 c.args.text.now c.split_once.result c.split_once.ensures.cases (omega arith) in
    let none = rw c.in_default.is at parts in
    no_host c.args.text.now none (λ h. true≢false (sym (c.is_host.ensures.1 h) ∙ c.if-is_host.false))

pub returns-then-not-is_host-clause-none : goal.returns-then-not-is_host-clause-none
returns-then-not-is_host-clause-none c =
    let parts = split_parts 58 c.args.text.now c.split_once.result c.split_once.ensures.cases (omega arith) in
    let at = rw c.in-Some.is at parts in
    other_host c.args.text.now c.in-Some.host.now c.in-Some.digits.now at.0 at.1 (λ h. true≢false (sym (c.is_host-2.ensures.1 h) ∙ c.if-not-is_host.true))

pub returns-in_err-port-clause-none : goal.returns-in_err-port-clause-none
returns-in_err-port-clause-none c =
    let parts = split_parts 58 c.args.text.now c.split_once.result c.split_once.ensures.cases (omega arith) in
    let at = rw c.in-Some.is at parts in
    if_none c.from_residual.result _ (other_port c.args.text.now c.in-Some.host.now c.in-Some.digits.now at.0 at.1 c.in_err-port.ensures.none)

pub returns-clause-some : goal.returns-clause-some
returns-clause-some c =
    let parts = split_parts 58 c.args.text.now c.split_once.result c.split_once.ensures.cases (omega arith) in
    let at = rw c.in-Some.is at parts in
    let port = c.in_ok-port.ensures.some in
    (c.is_host-2.ensures.0 c.if-not-is_host.false, numbered_by c.args.text.now c.in-Some.host.now c.in-Some.digits.now c.in_ok-port.port at.0 port.0 port.1 port.2)
