use Rattle.std.proofs.Common.{◌≡◌, arith, rules, sym, subst, refl, IsTrue, OnOk}
use Rattle.sqlite_trees.specs.Tree.{Trees}
use Rattle.sqlite.specs.Held.{state}
use Rattle.sqlite.specs.State.{HasCleanDisk, Survives}
use Rattle.sqlite.proofs.StateLemmas.{survives_then}
use Rattle.sqlite.proofs.Callers.{survives_begin}
use Rattle.repository_rows.specs.Contents.{no_rows}
use Rattle.table_rows.specs.Schema.{held}
use Rattle.table_rows.specs.Tables.{AreBare, HoldsWhole, IsStore}
use Rattle.table_rows.specs.Schema.{HasSome}
use Rattle.repository_tables.specs.steps.Migrating.{IsEarly, bare_cells}
use Rattle.repository_tables.proofs.CellLemmas.{cells_bare}
use Rattle.repository_tables.proofs.Changes.{committed, to_whole}
use Rattle.repository_tables.proofs.MakingLemmas.{early}
use Rattle.sql_tables.proofs.Calls.{OnOk_then}
use Rattle.repository_tables.proofs.making.begin.Goals as goal

pub returns-clause-wrote : goal.returns-clause-wrote
returns-clause-wrote g c clean some bare =
    let old = state g.S.Store c.args.conn.now in
    let tx = state g.S.Store c.begin_inside.new.tx.conn.now in
    let end = c.commit.new.self.0 in
    let same : end ≡ c.conn-2-1.given.0 = search rules in
    let late : HasCleanDisk (state g.S.Store end) = subst (λ h. HasCleanDisk (state g.S.Store h)) (sym same) clean in
    let soon : HasCleanDisk tx = omega (arith, late, c.commit.ensures.survives.clean) in
    let is_open : IsTrue old.is_open = subst (λ h. IsTrue (state g.S.Store h).is_open) c.transaction-tx.ensures.begun (c.in_ok-begin_inside.ensures.was_open soon) in
    let begun : IsEarly c.args.count (state g.S.Store c.transaction-tx.result.conn.now) bare_cells =
    subst (λ h. IsEarly c.args.count (state g.S.Store h) bare_cells) (sym c.transaction-tx.ensures.begun) (early c.args.count _ bare_cells is_open refl (c.schema.ensures.live is_open).0 some (cells_bare _ bare)) in
    let inside = c.in_ok-begin_inside.ensures.wrote soon begun in
    subst (λ h. OnOk c.commit.result (IsStore (state g.S.Store h) no_rows)) same
    (OnOk_then c.commit.result (c.commit.ensures.ok late) (λ done. committed tx (state g.S.Store end) no_rows inside done.1))

pub returns-clause-crash : goal.returns-clause-crash
returns-clause-crash g c =
    let old = state g.S.Store c.args.conn.now in
    let tx = state g.S.Store c.begin_inside.new.tx.conn.now in
    let end = c.commit.new.self.0 in
    let P = λ (trees : Trees). IsTrue old.is_open × (HasSome c.args.count old.now.schema → AreBare (held old.now.schema old.now.trees) → HoldsWhole trees no_rows) in
    let first : Survives old tx (λ _. ⊥) = survives_begin g.S.Store c.args.conn.now tx (λ _. ⊥) (subst (λ h. Survives (state g.S.Store h) tx (λ _. ⊥)) c.transaction-tx.ensures.begun c.begin_inside.ensures.uncommitted.survives) in
    let all = survives_then old tx (state g.S.Store end) (λ _. ⊥) (λ db. db ≡ tx.now.trees) P (λ _ db none. absurd none)
    (λ clean db is.
    let soon : HasCleanDisk tx = omega (arith, clean, c.commit.ensures.survives.clean) in
    let is_open : IsTrue old.is_open = subst (λ h. IsTrue (state g.S.Store h).is_open) c.transaction-tx.ensures.begun (c.in_ok-begin_inside.ensures.was_open soon) in (
      is_open,
      λ some bare.
          let begun : IsEarly c.args.count (state g.S.Store c.transaction-tx.result.conn.now) bare_cells =
          subst (λ h. IsEarly c.args.count (state g.S.Store h) bare_cells) (sym c.transaction-tx.ensures.begun) (early c.args.count _ bare_cells is_open refl (c.schema.ensures.live is_open).0 some (cells_bare _ bare)) in
          to_whole (c.in_ok-begin_inside.ensures.wrote soon begun) db is,
    ))
    first c.commit.ensures.survives in
    let same : end ≡ c.conn-2-1.given.0 = search rules in
    subst (λ h. Survives old (state g.S.Store h) P) same all
