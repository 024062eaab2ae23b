use Rattle.std.proofs.Common.{◌≡◌, ◌<◌, [], ℕ, map, IsTrue}
use Rattle.sqlite.specs.State.{HasCleanDisk, Survives}
use Rattle.sqlite.specs.Held.{state}
use Rattle.sql_tables.specs.Described.{AllLook, described_view, schema_of, tree_from}
use Rattle.sql_tables.proofs.Calls.{Same}
use Rattle.sql_tables.proofs.looking.has_rows.Given as goal

-- the tables before this place are empty, and nothing has changed
abbrev pub invariant-looks : goal.invariant-looks
invariant-looks g l =
    let old = state g.S.Store l.fn.tx.conn.now in
    let now = state g.S.Store l.tx.conn.now in
    let ds = map described_view l.described in
    (l.tx.conn.ghost_name ≡ l.fn.tx.conn.ghost_name)
    × Survives old now (λ _. ⊥)
    × (l.at ≡ 0 → now.is_open ≡ old.is_open)
    × (0 < l.at → HasCleanDisk now → IsTrue old.is_open)
    × (HasCleanDisk now → AllLook ds → old.now.schema ≡ schema_of ds → Same old now)
    × (HasCleanDisk now → AllLook ds → old.now.schema ≡ schema_of ds → (n : ℕ) → n < l.at → old.now.trees (tree_from 0 ds n) ≡ [])
