use Rattle.http_messages.proofs.Answered.{on-err}
use Rattle.http_messages.proofs.Frames.{cut-opens, cut-none}
use Rattle.http_messages.proofs.framing.read_document.Goals as goal

pub returns-in_err-name-clause-memory : goal.returns-in_err-name-clause-memory
returns-in_err-name-clause-memory c =
    on-err c.from_residual.result _
    ((c.in-Some.name.now, c.in-Some.bytes.now), c.in-Some.rest.now, cut-opens _ _ _ c.in-Some.ensures.some c.in_err-name.ensures.memory)

pub returns-in-None-clause-none : goal.returns-in-None-clause-none
returns-in-None-clause-none c =
    cut-none c.args.text.now (c.in-Some.name.now, c.in-Some.bytes.now) c.in-Some.rest.now c.in-Some.ensures.some
    (rw c.in-None.is at c.in_ok-name.ensures.none)
