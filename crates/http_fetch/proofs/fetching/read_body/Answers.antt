use Rattle.std.proofs.Common.{inl, inr}
use Rattle.http_fetch.specs.steps.Found.{absent, other}
use Rattle.http_fetch.proofs.Replying.{body_found, body_not, body_took, fault_took, took_none}
use Rattle.http_fetch.proofs.fetching.read_body.Goals as goal
use Rattle.http_fetch.proofs.fetching.read_body.Goals.{then-code-eq403-via-then-code-eq403, then-code-eq403-via-else-code-eq403+then-code-eq404}

pub returns-then-code-eq403-clause-reads : goal.returns-then-code-eq403-clause-reads
returns-then-code-eq403-clause-reads g c = absent (elim c.then-code-eq403.branch [
  | then-code-eq403-via-then-code-eq403 w ↦ inl w.if-code-eq403.true
  | then-code-eq403-via-else-code-eq403+then-code-eq404 w ↦ inr w.if-code-eq404.true
])

pub returns-then-code-ne200-clause-reads : goal.returns-then-code-ne200-clause-reads
returns-then-code-ne200-clause-reads g c = other c.if-code-ne200.true c.if-code-eq403.false c.if-code-eq404.false

pub returns-in-Ok-clause-reads : goal.returns-in-Ok-clause-reads
returns-in-Ok-clause-reads g c = body_found _ _ _ _ _ _ c.in-Ok.body c.if-code-ne200.false c.in-Ok.ensures

pub returns-in-Err-clause-reads : goal.returns-in-Err-clause-reads
returns-in-Err-clause-reads g c = body_not _ _ _ _ _ _ _ c.if-code-ne200.false c.in-Err.ensures

pub returns-then-code-eq403-clause-took : goal.returns-then-code-eq403-clause-took
returns-then-code-eq403-clause-took g c = took_none _ _ _

pub returns-then-code-ne200-clause-took : goal.returns-then-code-ne200-clause-took
returns-then-code-ne200-clause-took g c = took_none _ _ _

pub returns-in-Ok-clause-took : goal.returns-in-Ok-clause-took
returns-in-Ok-clause-took g c = body_took _ _ (g.R.Receive.sound c.args.reader.now) _ _ c.in-Ok.body c.in-Ok.ensures

pub returns-in-Err-clause-took : goal.returns-in-Err-clause-took
returns-in-Err-clause-took g c = fault_took _ _ (g.R.Receive.sound c.args.reader.now) _ _ c.in-Err.fault c.in-Err.ensures
