use Rattle.sqlite.specs.Held.{state}
use Rattle.store.specs.Standing.{seen}
use Rattle.release.specs.Serving.{ServedOver}
use Rattle.release.proofs.serve.Server.serve_all.Given as goal

abbrev pub invariant-loop : goal.invariant-loop
invariant-loop g l = ServedOver l.fn.reads_only (seen l.fn.repository.kept (state g.S.Store l.fn.repository.conn)) (seen l.repository.kept (state g.S.Store l.repository.conn))
