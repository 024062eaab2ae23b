use Rattle.std.proofs.Common.{◌-◌, ◌≤◌, [], Result, map, string_bytes, vec_len}
use Rattle.sqlite.specs.Held.{state}
use Rattle.metadata.specs.File.{Bytes}
use Rattle.store.specs.Standing.{IsClean, Standing, seen}
use Rattle.client.specs.Changes.{Changes}
use Rattle.client.specs.Session.{Fetches}
use Rattle.client.specs.Views.{Fault}
use Rattle.client.proofs.fetching.rounds.Given as goal

-- whatever the rest of the call comes to, after the names that were fetched, the whole comes to
abbrev pub invariant-rounds : goal.invariant-rounds
invariant-rounds g l = record {
  few : vec_len l.names ≤ 194;
  rest : (B : Standing) (u : _) (r : Result Bytes Fault)
      → Changes (seen l.store.kept (state g.S.Store l.store.conn)) B (λ C D. Fetches (IsClean B) g.F.Source.gives l.now l.path (map string_bytes l.names.items) l.source C u D r)
      → Changes (seen l.initial.store.kept (state g.S.Store l.initial.store.conn)) B (λ C D. Fetches (IsClean B) g.F.Source.gives l.now l.path [] l.initial.source C u D r);
}

abbrev pub decreases-rounds : goal.decreases-rounds
decreases-rounds g l = 195 - vec_len l.names
