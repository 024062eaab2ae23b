use Rattle.std.proofs.Common.{◌∙◌}
use Rattle.http_fetch.proofs.Saying.{took_text}
use Rattle.http_fetch.proofs.sending.send_over.Goals as goal

pub returns-in-Ok-read_answer-clause-asks : goal.returns-in-Ok-read_answer-clause-asks
returns-in-Ok-read_answer-clause-asks g c = took_text _ _ _ _ _ (c.deref.ensures.value ∙ c.in-Ok.ensures) c.in-Ok-send_both.ensures.ok

pub returns-in-Ok-send_both-clause-asks : goal.returns-in-Ok-send_both-clause-asks
returns-in-Ok-send_both-clause-asks g c = took_text _ _ _ _ _ (c.deref.ensures.value ∙ c.in-Ok.ensures) c.in-Ok-send_both.ensures.ok
