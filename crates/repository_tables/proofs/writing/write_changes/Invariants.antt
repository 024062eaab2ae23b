use Rattle.std.proofs.Common.{◌≡◌, take}
use Rattle.sqlite.specs.State.{HasCleanDisk, KeepsCommit, Survives}
use Rattle.sqlite.specs.Held.{state}
use Rattle.table_rows.specs.Tables.{IsStore}
use Rattle.repository_tables.specs.Changes.{after_all}
use Rattle.repository_tables.specs.steps.Writing.{IsInside, cells_of}
use Rattle.repository_tables.proofs.writing.write_changes.Given as goal

-- the changes so far are made inside the transaction, and nothing is committed
abbrev pub invariant-writes : goal.invariant-writes
invariant-writes g l =
    let old = state g.S.Store l.fn.conn in
    let now = state g.S.Store l.tx.conn.now in
    (l.tx.conn.ghost_name ≡ l.initial.tx.conn.ghost_name)
    × Survives old now (λ _. ⊥)
    × (HasCleanDisk now → KeepsCommit old now)
    × (HasCleanDisk now → (t : _) → IsStore old t → IsInside now (cells_of (after_all (take l.change-index l.changes) t)))
