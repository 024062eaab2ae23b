use Rattle.http_messages.specs.Orders.{pass, decide, found, lacks, given}
use Rattle.http_messages.specs.Request.{commands, refuses}
use Rattle.http_messages.proofs.request.asked_batch.Goals as goal

pub returns-in-Some-clause-asked : goal.returns-in-Some-clause-asked
returns-in-Some-clause-asked c = commands (pass (found (rw c.in-Some.is at c.in_ok-documents.ensures.some)) given)

pub returns-in-None-clause-asked : goal.returns-in-None-clause-asked
returns-in-None-clause-asked c = refuses (decide (lacks (rw c.in-None.is at c.in_ok-documents.ensures.none)))
