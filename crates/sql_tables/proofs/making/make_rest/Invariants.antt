use Rattle.std.proofs.Common.{◌≡◌, map}
use Rattle.sqlite_trees.specs.Tree.{Trees}
use Rattle.sqlite.specs.Effect.{IsDatabase}
use Rattle.sqlite.specs.State.{HasCleanDisk, KeepsCommit, Survives}
use Rattle.sqlite.specs.Held.{state}
use Rattle.sql_tables.specs.Making.{IsMade}
use Rattle.sql_tables.specs.Described.{AllMake, LacksRest, beginning, described_view}
use Rattle.sql_tables.proofs.making.make_rest.Given as goal

-- the tables up to this place are made, and nothing is committed
abbrev pub invariant-tables : goal.invariant-tables
invariant-tables g l =
    let old = state g.S.Store l.fn.tx.conn.now in
    let now = state g.S.Store l.tx.conn.now in
    let ds = map described_view l.described in
    (l.tx.conn.ghost_name ≡ l.fn.tx.conn.ghost_name)
    × Survives old now (λ _. ⊥)
    × (HasCleanDisk now → KeepsCommit old now)
    × (HasCleanDisk now → AllMake ds → (rows : Trees) → LacksRest ds l.count rows → IsMade rows (beginning ds l.count) old → IsMade rows (beginning ds l.at) now)
    × (HasCleanDisk now → AllMake ds → (rows : Trees) → LacksRest ds l.count rows → IsMade rows (beginning ds l.count) old → IsDatabase old.now → IsDatabase now.now)
