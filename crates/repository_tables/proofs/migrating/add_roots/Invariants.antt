use Rattle.std.proofs.Common.{map, take}
use Rattle.sqlite.specs.State.{HasCleanDisk}
use Rattle.sqlite.specs.Held.{state}
use Rattle.repository_tables.specs.steps.Writing.{Cells, IsInside, IsUncommitted}
use Rattle.repository_tables.proofs.Migrated.{with_roots}
use Rattle.repository_tables.proofs.migrating.add_roots.Given as goal

-- the roots so far are there, and nothing is committed
abbrev pub invariant-roots : goal.invariant-roots
invariant-roots g l =
    let old = state g.S.Store l.initial.tx.conn.now in
    let now = state g.S.Store l.tx.conn.now in
    IsUncommitted g.S.Store l.initial.tx l.tx
    × (HasCleanDisk now → (c : Cells) → IsInside old c → IsInside now (with_roots c (map (λ r. (r.0, (1, r.1.now))) (take l.root-index l.roots))))
