use Rattle.std.proofs.Common.{length}
use Rattle.sqlite.specs.Held.{state}
use Rattle.store.specs.Standing.{seen}
use Rattle.release.specs.AfterPuts.{PutsOver}
use Rattle.release.proofs.publish.Publishing.put_all.Given as goal

abbrev pub invariant-files : goal.invariant-files
invariant-files g l = PutsOver l.self.offering.now (seen l.fn.repository.kept (state g.S.Store l.fn.repository.conn)) (seen l.repository.kept (state g.S.Store l.repository.conn))

abbrev pub decreases-files : goal.decreases-files
decreases-files g l = length l.rest
