use Rattle.std.proofs.Common.{◌≡◌, ◌+◌, ◌++◌, [], ◌∷◌, take, slice_index_or, refl, sym, ap, subst, ◌∙◌, arith, rules, IsTrue, OnErr, OnOk}
use Rattle.std.proofs.lemmas.List.{take_more, take_all}
use Rattle.sqlite_trees.specs.Tree.{Trees}
use Rattle.sqlite.specs.State.{HasCleanDisk, Survives}
use Rattle.sqlite.specs.Held.{state}
use Rattle.sqlite.proofs.StateLemmas.{survives_then}
use Rattle.repository_tables.specs.declared.change.Change.{Change}
use Rattle.repository_tables.specs.declared.change.Change.TheVariants.{PutRoot}
use Rattle.repository_rows.specs.Contents.{Contents}
use Rattle.table_rows.specs.Tables.{IsStore, HoldsWhole}
use Rattle.repository_tables.specs.Changes.{after_all}
use Rattle.repository_tables.specs.steps.Writing.{IsInside, cells_of}
use Rattle.repository_tables.proofs.Changes.{after_all_more, committed, err_then, fails_back, inside, kept_back, on_err, to_whole}
use Rattle.sql_tables.proofs.Calls.{OnOk_then, keeps_then}
use Rattle.table_rows.proofs.Looking.{quiet_then}
use Rattle.repository_tables.proofs.writing.write_changes.Goals as goal

pub writes-init : goal.writes-init
writes-init g c =
    let was = c.args.conn.now in
    let began : (t : Contents) → IsStore (state g.S.Store was) t → IsInside (state g.S.Store c.transaction-tx.result.conn.now) (cells_of t) =
    λ t is. subst (λ h. IsInside (state g.S.Store h) (cells_of t)) (sym c.transaction-tx.ensures.begun) (inside _ t is.is_open refl (c.schema.ensures.live is.is_open).0 is.schema is.holds) in
    (search rules, search rules, search rules, λ clean t is. began t is)

pub writes-preserved : goal.writes-preserved
writes-preserved g c =
    let old = state g.S.Store c.args.conn.now in
    let was = state g.S.Store c.writes.tx.conn.now in
    let now = state g.S.Store c.write.new.tx.conn.now in
    let at = c.writes.change-index in
    let so = c.writes.invariant in
    let none : Change = PutRoot 0 0 (record { ref_ptr = (0, 0); now = [] }) in
    let item = slice_index_or c.args.changes.now at none in
    let more : take (at + 1) c.args.changes.now ≡ take at c.args.changes.now ++ item ∷ [] = take_more c.args.changes.now at none (omega arith) in
    let early : HasCleanDisk now → HasCleanDisk was = λ clean. omega (arith, c.write.ensures.uncommitted.survives.clean) in (
      c.write.ensures.uncommitted.same_reference ∙ so.0,
      quiet_then old was now so.1 c.write.ensures.uncommitted.survives,
      λ clean. keeps_then old was now (so.2 (early clean)) (c.write.ensures.uncommitted.kept clean),
      λ clean t is. subst (λ u. IsInside now (cells_of u)) (sym (ap (λ es. after_all es t) more ∙ after_all_more (take at c.args.changes.now) item t)) (c.in_ok-write.ensures.wrote clean _ (so.3 (early clean) t is)),
    )

pub returns-clause-wrote : goal.returns-clause-wrote
returns-clause-wrote g c clean t is =
    let tx = state g.S.Store c.writes.tx.conn.now in
    let end = c.commit.new.self.0 in
    let same : end ≡ c.conn-2-1.given.0 = search rules in
    let whole : take c.writes.change-index c.args.changes.now ≡ c.args.changes.now = take_all c.writes.change-index c.args.changes.now (omega arith) in
    let late : HasCleanDisk (state g.S.Store end) = subst (λ h. HasCleanDisk (state g.S.Store h)) (sym same) clean in
    let inside = subst (λ es. IsInside tx (cells_of (after_all es t))) whole (c.writes.invariant.3 (omega (arith, late, c.commit.ensures.survives.clean)) t is) in
    subst (λ h. OnOk c.commit.result (IsStore (state g.S.Store h) (after_all c.args.changes.now t))) same
    (OnOk_then c.commit.result (c.commit.ensures.ok late) (λ done. committed tx (state g.S.Store end) (after_all c.args.changes.now t) inside done.1))

pub returns-clause-crash : goal.returns-clause-crash
returns-clause-crash g c =
    let old = state g.S.Store c.args.conn.now in
    let tx = state g.S.Store c.writes.tx.conn.now in
    let end = c.commit.new.self.0 in
    let P = λ (trees : Trees). (t : Contents) → IsStore old t → HoldsWhole trees (after_all c.args.changes.now t) in
    let whole : take c.writes.change-index c.args.changes.now ≡ c.args.changes.now = take_all c.writes.change-index c.args.changes.now (omega arith) in
    let all = survives_then old tx (state g.S.Store end) (λ _. ⊥) (λ db. db ≡ tx.now.trees) P (λ _ db none. absurd none)
    (λ clean db is t store. subst (λ es. HoldsWhole db (after_all es t)) whole (to_whole (c.writes.invariant.3 (omega (arith, c.commit.ensures.survives.clean)) t store) db is))
    c.writes.invariant.1 c.commit.ensures.survives in
    let same : end ≡ c.conn-2-1.given.0 = search rules in
    subst (λ h. Survives old (state g.S.Store h) P) same all

pub returns-in_err-write-clause-kept : goal.returns-in_err-write-clause-kept
returns-in_err-write-clause-kept g c clean stays t is =
    let old = state g.S.Store c.args.conn.now in
    let tx = state g.S.Store c.write.new.tx.conn.now in
    let end = c.drop-tx.new.self.0 in
    let same : end ≡ c.conn-1.given.0 = search rules in
    let late : HasCleanDisk (state g.S.Store end) = subst (λ h. HasCleanDisk (state g.S.Store h)) (sym same) clean in
    let early : HasCleanDisk tx = omega (arith, late, c.drop-tx.ensures.survives.clean) in
    let kept = keeps_then old (state g.S.Store c.writes.tx.conn.now) tx (c.writes.invariant.2 (omega (arith, early, c.write.ensures.uncommitted.survives.clean))) (c.write.ensures.uncommitted.kept early) in
    on_err c.from_residual.result (subst (λ h. IsStore (state g.S.Store h) t) same (kept_back old tx (state g.S.Store end) t (subst (λ h. IsTrue (state g.S.Store h).is_open) (sym same) stays) kept (c.drop-tx.ensures.undone late) is))

pub returns-clause-kept : goal.returns-clause-kept
returns-clause-kept g c clean stays t is =
    let old = state g.S.Store c.args.conn.now in
    let tx = state g.S.Store c.writes.tx.conn.now in
    let end = c.commit.new.self.0 in
    let same : end ≡ c.conn-2-1.given.0 = search rules in
    let late : HasCleanDisk (state g.S.Store end) = subst (λ h. HasCleanDisk (state g.S.Store h)) (sym same) clean in
    let early : HasCleanDisk tx = omega (arith, late, c.commit.ensures.survives.clean) in
    subst (λ h. OnErr c.commit.result (IsStore (state g.S.Store h) t)) same
    (err_then c.commit.result (c.commit.ensures.err late) (λ e fails. kept_back old tx (state g.S.Store end) t (subst (λ h. IsTrue (state g.S.Store h).is_open) (sym same) stays) (c.writes.invariant.2 early) (fails_back tx (state g.S.Store end) e (c.writes.invariant.3 early t is).tables.inside fails) is))
