use Rattle.std.proofs.Common.{◌-◌, Result, Err}
use Rattle.sqlite.specs.Held.{state}
use Rattle.store.specs.Standing.{Standing, seen}
use Rattle.fetch.specs.declared.FetchFault.TheVariants as fetches
use Rattle.client.specs.Changes.{Changes}
use Rattle.client.specs.Session.{Updates}
use Rattle.client.specs.Several.{InTurn, IsWanting}
use Rattle.client.specs.Views.{Fault, Fetch, ended}
use Rattle.client.proofs.several.updates.Given as goal

-- whatever the rest of the turns comes to, all of them come to
abbrev pub invariant-loop-place : goal.invariant-loop-place
invariant-loop-place g l = (B : Standing) (u : _) (r : Result (Unit {0}) Fault)
    → Changes (seen l.store.kept (state g.S.Store l.store.conn)) B
    (λ C D. InTurn g.F.Sources.turns g.F.Sources.tells (Updates g.F.Source.gives l.now) IsWanting l.place (l.count - l.place) (ended (λ u. u) l.so_far) l.sources C u D r)
    → Changes (seen l.initial.store.kept (state g.S.Store l.initial.store.conn)) B
    (λ C D. InTurn g.F.Sources.turns g.F.Sources.tells (Updates g.F.Source.gives l.now) IsWanting 0 l.count (Err (Fetch fetches.Broken)) l.initial.sources C u D r)
