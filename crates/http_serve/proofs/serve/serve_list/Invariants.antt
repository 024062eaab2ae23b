use Rattle.std.proofs.Common.{◌≡◌, ◌≤◌, length, take, drop, map, false}
use Rattle.sqlite.specs.Held.{state}
use Rattle.http_serve.specs.Serving.{ServesBy}
use Rattle.store.specs.Standing.{seen}
use Rattle.http_serve.proofs.serve.serve_list.Given as goal

-- those before the index are served, and those from it on are as they were
abbrev pub invariant-loop-reader : goal.invariant-loop-reader
invariant-loop-reader g l = record {
  count : l.count ≤ l.reader-index;
  len : length l.connections ≡ length l.initial.connections;
  rest : drop l.reader-index l.connections ≡ drop l.reader-index l.initial.connections;
  served : ServesBy false
      (map (λ c. record { given = g.R.Read.remaining c.0; held = g.W.Write.contents c.1; now = c.2; reads = g.R.Receive.sound c.0; writes = g.W.Transmit.sound c.1 }) (take l.reader-index l.initial.connections))
      (map (λ c. g.W.Write.contents c.1) (take l.reader-index l.connections))
      (seen l.initial.store.kept (state g.S.Store l.initial.store.conn))
      (seen l.store.kept (state g.S.Store l.store.conn)) l.count;
}
