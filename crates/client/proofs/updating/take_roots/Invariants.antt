use Rattle.std.proofs.Common.{◌-◌, Result}
use Rattle.sqlite.specs.Held.{state}
use Rattle.store.specs.Standing.{Standing, seen}
use Rattle.client.specs.Changes.{Changes}
use Rattle.client.specs.Session.{TakesRoots}
use Rattle.client.specs.Views.{Fault}
use Rattle.client.proofs.updating.take_roots.Given as goal

-- whatever the rest of the rounds comes to, all of them come to
abbrev pub invariant-loop-round : goal.invariant-loop-round
invariant-loop-round g l = (B : Standing) (u : _) (r : Result (Unit {0}) Fault)
    → Changes (seen l.store.kept (state g.S.Store l.store.conn)) B (λ C D. TakesRoots g.F.Source.gives l.now (64 - l._round) l.source C u D r)
    → Changes (seen l.initial.store.kept (state g.S.Store l.initial.store.conn)) B (λ C D. TakesRoots g.F.Source.gives l.now 64 l.initial.source C u D r)
