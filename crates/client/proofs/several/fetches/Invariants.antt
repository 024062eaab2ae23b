use Rattle.std.proofs.Common.{◌-◌, [], Result, Err}
use Rattle.sqlite.specs.Held.{state}
use Rattle.metadata.specs.File.{Bytes}
use Rattle.store.specs.Standing.{IsClean, Standing, seen}
use Rattle.fetch.specs.declared.FetchFault.TheVariants as fetches
use Rattle.client.specs.Changes.{Changes}
use Rattle.client.specs.Session.{Fetches}
use Rattle.client.specs.Several.{InTurn, IsLast}
use Rattle.client.specs.Views.{Fault, Fetch, fault_view}
use Rattle.client.proofs.several.fetches.Given as goal

-- whatever the rest of the turns comes to, all of them come to
abbrev pub invariant-loop-at : goal.invariant-loop-at
invariant-loop-at g l = (B : Standing) (u : _) (r : Result Bytes Fault)
    → Changes (seen l.store.kept (state g.S.Store l.store.conn)) B
    (λ C D. InTurn g.F.Sources.turns g.F.Sources.tells (Fetches (IsClean B) g.F.Source.gives l.now l.path []) IsLast l.at (l.count - l.at) (Err (fault_view l.so_far)) l.sources C u D r)
    → Changes (seen l.initial.store.kept (state g.S.Store l.initial.store.conn)) B
    (λ C D. InTurn g.F.Sources.turns g.F.Sources.tells (Fetches (IsClean B) g.F.Source.gives l.now l.path []) IsLast 0 l.count (Err (Fetch fetches.Broken)) l.initial.sources C u D r)
