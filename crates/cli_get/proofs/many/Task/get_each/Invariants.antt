use Rattle.std.proofs.Common.{length}
use Rattle.sqlite.specs.Held.{state}
use Rattle.store.specs.Standing.{seen}
use Rattle.cli_client.specs.Clients.{Updated}
use Rattle.cli_get.proofs.many.Task.get_each.Given as goal

-- the texts so far
abbrev pub invariant-texts : goal.invariant-texts
invariant-texts g l = Updated l.self.moment (seen l.fn.store.kept (state g.S.Store l.fn.store.conn)) (seen l.store.kept (state g.S.Store l.store.conn))

abbrev pub decreases-texts : goal.decreases-texts
decreases-texts g l = length l.rest
