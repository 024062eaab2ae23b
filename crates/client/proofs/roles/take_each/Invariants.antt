use Rattle.std.proofs.Common.{length}
use Rattle.sqlite.specs.Held.{state}
use Rattle.store.specs.Standing.{seen}
use Rattle.client.specs.Changes.{Changes}
use Rattle.client.specs.Taken.{IsTaking, RunsOn}
use Rattle.client.proofs.roles.take_each.Given as goal

-- so far it is a run of offers
abbrev pub invariant-missing : goal.invariant-missing
invariant-missing g l = Changes (seen l.initial.store.kept (state g.S.Store l.initial.store.conn)) (seen l.store.kept (state g.S.Store l.store.conn)) (λ C D. RunsOn IsTaking l.now C D)

abbrev pub decreases-missing : goal.decreases-missing
decreases-missing g l = length l.missing.items
