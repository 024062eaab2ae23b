use Rattle.sqlite.specs.Held.{state}
use Rattle.store.specs.Standing.{seen}
use Rattle.client.specs.Changes.{Changes}
use Rattle.client.specs.Taken.{IsTaking, RunsOn}
use Rattle.client.proofs.roles.fetch_roles_by_each.Given as goal

-- so far it is a run of offers
abbrev pub invariant-loop-place : goal.invariant-loop-place
invariant-loop-place g l = Changes (seen l.initial.store.kept (state g.S.Store l.initial.store.conn)) (seen l.store.kept (state g.S.Store l.store.conn)) (λ C D. RunsOn IsTaking l.now C D)
