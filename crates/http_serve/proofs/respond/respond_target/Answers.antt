use Rattle.std.proofs.Common.{subst}
use Rattle.std.specs.Prelude.{option_map}
use Rattle.sqlite.specs.Held.{state}
use Rattle.trust_rules.specs.Runs.{Target}
use Rattle.http_serve.specs.Response.{asks}
use Rattle.store.specs.Standing.{seen}
use Rattle.http_serve.specs.steps.Views.{Performed}
use Rattle.http_serve.proofs.Responding.{served, wanting}
use Rattle.http_serve.proofs.Standings.{rests}
use Rattle.http_serve.proofs.respond.respond_target.Goals as goal

pub returns-in-Ok-clause-responded : goal.returns-in-Ok-clause-responded
returns-in-Ok-clause-responded g c =
    let asked = option_map (λ d. d.0) c.in-Ok.asked in
    served _ _ _ (Target _ asked) c.args.now _ _ c.perform.result (asks c.args.text.now _ asked c.in-Ok.ensures)
    (subst (λ p. Performed (seen c.args.store.now.kept (state g.S.Store c.args.store.now.conn)) (Target p asked) c.args.now
    (seen c.perform.new.store.kept (state g.S.Store c.perform.new.store.conn)) (g.W.Write.contents c.args.writer.now) (g.W.Write.contents c.perform.new.writer) c.perform.result)
    c.as_str.ensures.value c.perform.ensures.performed)

pub returns-in-Err-clause-responded : goal.returns-in-Err-clause-responded
returns-in-Err-clause-responded g c =
    wanting _ _ _ c.args.now _ _ c.write_fault.result tt (rests _)
    c.write_fault.ensures.wrote
