use Rattle.std.proofs.Common.{◌≡◌, arith, rules, refl, sym, subst, map, IsTrue, OnErr, OnOk}
use Rattle.sqlite_trees.specs.Tree.{Trees}
use Rattle.sqlite.specs.State.{HasCleanDisk, KeepsCommit, Survives}
use Rattle.sqlite.specs.Held.{state}
use Rattle.sqlite.proofs.StateLemmas.{survives_then}
use Rattle.sqlite.proofs.Callers.{survives_begin}
use Rattle.repository_rows.specs.Contents.{Contents}
use Rattle.sql_tables.proofs.Calls.{OnOk_then}
use Rattle.repository_tables.specs.Migration.{IsEarlier}
use Rattle.table_rows.specs.Tables.{HoldsWhole, IsStore}
use Rattle.repository_tables.specs.steps.Writing.{IsInside}
use Rattle.repository_tables.proofs.Changes.{committed, err_then, fails_back, to_whole}
use Rattle.repository_tables.proofs.Migrated.{Ready, first_back, ready}
use Rattle.repository_tables.proofs.migrating.bring_over.Goals as goal

pub returns-clause-wrote : goal.returns-clause-wrote
returns-clause-wrote g c clean t is same_roots =
    let tx = state g.S.Store c.bring.new.tx.conn.now in
    let end = c.commit.new.self.0 in
    let same : end ≡ c.conn-2-1.given.0 = search rules in
    let late : HasCleanDisk (state g.S.Store end) = subst (λ h. HasCleanDisk (state g.S.Store h)) (sym same) clean in
    let begun : Ready c.args.count (state g.S.Store c.transaction-tx.result.conn.now) t (map (λ r. (r.0, (1, r.1.now))) c.args.roots.now) =
    subst (λ h. Ready c.args.count (state g.S.Store h) t (map (λ r. (r.0, (1, r.1.now))) c.args.roots.now)) (sym c.transaction-tx.ensures.begun) (ready c.args.count _ t _ c.requires.some is.is_open is.schema is.holds is.lacks refl (c.schema.ensures.live is.is_open).0 same_roots) in
    let inside = subst (IsInside tx) begun.2 (c.in_ok-bring.ensures.wrote (omega (arith, late, c.commit.ensures.survives.clean)) begun.0 begun.1) in
    subst (λ h. OnOk c.commit.result (IsStore (state g.S.Store h) t)) same
    (OnOk_then c.commit.result (c.commit.ensures.ok late) (λ done. committed tx (state g.S.Store end) t inside done.1))

pub returns-clause-crash : goal.returns-clause-crash
returns-clause-crash g c =
    let old = state g.S.Store c.args.conn.now in
    let tx = state g.S.Store c.bring.new.tx.conn.now in
    let end = c.commit.new.self.0 in
    let P = λ (trees : Trees). (t : Contents) → IsEarlier old t → t.roots ≡ map (λ r. (r.0, (1, r.1.now))) c.args.roots.now → HoldsWhole trees t in
    let first : Survives old tx (λ _. ⊥) = survives_begin g.S.Store c.args.conn.now tx (λ _. ⊥) (subst (λ h. Survives (state g.S.Store h) tx (λ _. ⊥)) c.transaction-tx.ensures.begun c.bring.ensures.uncommitted.survives) in
    let all = survives_then old tx (state g.S.Store end) (λ _. ⊥) (λ db. db ≡ tx.now.trees) P (λ _ db none. absurd none)
    (λ clean db is t store same_roots.
    let begun : Ready c.args.count (state g.S.Store c.transaction-tx.result.conn.now) t (map (λ r. (r.0, (1, r.1.now))) c.args.roots.now) =
    subst (λ h. Ready c.args.count (state g.S.Store h) t (map (λ r. (r.0, (1, r.1.now))) c.args.roots.now)) (sym c.transaction-tx.ensures.begun) (ready c.args.count _ t _ c.requires.some store.is_open store.schema store.holds store.lacks refl (c.schema.ensures.live store.is_open).0 same_roots) in
    to_whole (subst (IsInside tx) begun.2 (c.in_ok-bring.ensures.wrote (omega (arith, clean, c.commit.ensures.survives.clean)) begun.0 begun.1)) db is)
    first c.commit.ensures.survives in
    let same : end ≡ c.conn-2-1.given.0 = search rules in
    subst (λ h. Survives old (state g.S.Store h) P) same all

pub returns-clause-kept : goal.returns-clause-kept
returns-clause-kept g c clean stays t is same_roots =
    let old = state g.S.Store c.args.conn.now in
    let tx = state g.S.Store c.bring.new.tx.conn.now in
    let end = c.commit.new.self.0 in
    let same : end ≡ c.conn-2-1.given.0 = search rules in
    let late : HasCleanDisk (state g.S.Store end) = subst (λ h. HasCleanDisk (state g.S.Store h)) (sym same) clean in
    let soon : HasCleanDisk tx = omega (arith, late, c.commit.ensures.survives.clean) in
    let kept = subst (λ h. KeepsCommit (state g.S.Store h) tx) c.transaction-tx.ensures.begun (c.bring.ensures.uncommitted.kept soon) in
    let begun : Ready c.args.count (state g.S.Store c.transaction-tx.result.conn.now) t (map (λ r. (r.0, (1, r.1.now))) c.args.roots.now) =
    subst (λ h. Ready c.args.count (state g.S.Store h) t (map (λ r. (r.0, (1, r.1.now))) c.args.roots.now)) (sym c.transaction-tx.ensures.begun) (ready c.args.count _ t _ c.requires.some is.is_open is.schema is.holds is.lacks refl (c.schema.ensures.live is.is_open).0 same_roots) in
    let inside = subst (IsInside tx) begun.2 (c.in_ok-bring.ensures.wrote soon begun.0 begun.1) in
    subst (λ h. OnErr c.commit.result (IsEarlier (state g.S.Store h) t)) same
    (err_then c.commit.result (c.commit.ensures.err late) (λ e fails. first_back old tx (state g.S.Store end) t (subst (λ h. IsTrue (state g.S.Store h).is_open) (sym same) stays)
    (record { was_open = λ there. kept.was_open there; committed = λ there. kept.committed there }) (fails_back tx (state g.S.Store end) e inside.tables.inside fails) is))
