use Rattle.std.proofs.Common.{ap, subst, ◌∙◌}
use Rattle.sqlite.specs.Held.{state}
use Rattle.trust_rules.specs.Runs.{Batch}
use Rattle.store.specs.StateViews.{documents_view}
use Rattle.store.specs.Standing.{seen}
use Rattle.http_serve.specs.steps.Views.{Performed}
use Rattle.http_serve.proofs.Responding.{offered, served, wanting}
use Rattle.http_serve.proofs.Standings.{rests}
use Rattle.http_serve.proofs.respond.respond_batch.Goals as goal

pub returns-in-Ok-clause-responded : goal.returns-in-Ok-clause-responded
returns-in-Ok-clause-responded g c =
    served _ _ _ _ c.args.now _ _ c.perform.result (offered c.args.documents.items)
    (subst (λ os. Performed (seen c.args.store.now.kept (state g.S.Store c.args.store.now.conn)) (Batch os) c.args.now
    (seen c.perform.new.store.kept (state g.S.Store c.perform.new.store.conn)) (g.W.Write.contents c.args.writer.now) (g.W.Write.contents c.perform.new.writer) c.perform.result)
    (ap documents_view c.deref.ensures.value ∙ c.in-Ok.ensures) c.perform.ensures.performed)

pub returns-in-Err-clause-responded : goal.returns-in-Err-clause-responded
returns-in-Err-clause-responded g c =
    wanting _ _ _ c.args.now _ _ c.write_fault.result tt (rests _)
    c.write_fault.ensures.wrote
