use Rattle.http_fetch.specs.Reply.{cut, wanting}
use Rattle.http_fetch.proofs.Replying.{and_written, took_nothing}
use Rattle.http_fetch.proofs.fetching.fetch_over.Goals as goal

pub returns-in-Err-clause-answers : goal.returns-in-Err-clause-answers
returns-in-Err-clause-answers g c = wanting

pub returns-in-Ok-send_all-clause-answers : goal.returns-in-Ok-send_all-clause-answers
returns-in-Ok-send_all-clause-answers g c = and_written _ _ _ _ _ c.read_reply.ensures.answers

pub returns-clause-answers : goal.returns-clause-answers
returns-clause-answers g c = cut (λ sound. c.in-Err-send_all.ensures.sound sound.1)

pub returns-in-Err-clause-took : goal.returns-in-Err-clause-took
returns-in-Err-clause-took g c = took_nothing _ _

pub returns-clause-took : goal.returns-clause-took
returns-clause-took g c = took_nothing _ _
