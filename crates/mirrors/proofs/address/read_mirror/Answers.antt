use Rattle.std.proofs.Common.{codes}
use Rattle.mirrors.proofs.Reading.{if_none, behind_text, parts_of}
use Rattle.mirrors.proofs.address.read_mirror.Goals as goal

pub returns-in_err-host-clause-none : goal.returns-in_err-host-clause-none
returns-in_err-host-clause-none c = if_none c.from_residual-in_err-host.result _ (λ host port authority prefix m.
    let split = behind_text (codes "http://") c.args.text.now c.in_ok-rest.rest.now c.in_ok-rest.ensures.cases in
    c.in_err-host.ensures.none host port m.is_host
    (parts_of c.args.text.now c.in_ok-rest.rest.now c.cut.result.0.now c.cut.result.1.now host port authority prefix split c.cut.ensures m).0)

pub returns-in_err-prefix-clause-none : goal.returns-in_err-prefix-clause-none
returns-in_err-prefix-clause-none c = if_none c.from_residual-in_err-prefix.result _ (λ host port authority prefix m.
    let split = behind_text (codes "http://") c.args.text.now c.in_ok-rest.rest.now c.in_ok-rest.ensures.cases in
    c.in_err-prefix.ensures.none prefix
    (parts_of c.args.text.now c.in_ok-rest.rest.now c.cut.result.0.now c.cut.result.1.now host port authority prefix split c.cut.ensures m).1)
