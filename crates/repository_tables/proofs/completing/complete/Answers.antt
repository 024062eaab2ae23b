use Rattle.std.proofs.Common.{◌≡◌, ◌∙◌, arith, rules, true≢false, ap, sym, subst, refl, IsTrue}
use Rattle.sqlite_trees.specs.Tree.{Trees}
use Rattle.sqlite.specs.Held.{state}
use Rattle.sqlite.specs.State.{HasCleanDisk, KeepsCommit, Survives}
use Rattle.sqlite.proofs.StateLemmas.{survives_then}
use Rattle.sqlite.proofs.Callers.{survives_begin}
use Rattle.table_rows.specs.Schema.{beginning, held, six}
use Rattle.repository_rows.specs.Contents.{no_rows}
use Rattle.table_rows.specs.Tables.{AreBare, HoldsWhole, IsStore}
use Rattle.sql_tables.specs.Schema.{counted}
use Rattle.sql_tables.specs.Making.{IsMade}
use Rattle.sql_tables.proofs.Beginnings.{as_counted, lacks}
use Rattle.table_rows.proofs.Beginnings.{held_few}
use Rattle.repository_tables.proofs.Changes.{committed, to_whole}
use Rattle.sql_tables.proofs.Calls.{keeps_then}
use Rattle.repository_tables.proofs.completing.complete.Goals as goal

pub returns-then-not-branch-clause-found : goal.returns-then-not-branch-clause-found
returns-then-not-branch-clause-found g c clean schema =
    let old = state g.S.Store c.args.conn.now in
    let tx = state g.S.Store c.fill.new.tx.conn.now in
    let end = c.drop-tx-then-not-branch.new.self.0 in
    let rows = counted (beginning c.args.count) old.now.trees in
    let same : end ≡ c.conn-then-not-branch-1.given.0 = search rules in
    let late : HasCleanDisk (state g.S.Store end) = subst (λ h. HasCleanDisk (state g.S.Store h)) (sym same) clean in
    let early : HasCleanDisk tx = omega (arith, late, c.drop-tx-then-not-branch.ensures.survives.clean) in
    let is_open = subst (λ h. IsTrue (state g.S.Store h).is_open) c.transaction-tx.ensures.begun (c.in_ok-fill.ensures.was_open early) in
    let begun : IsMade rows (beginning c.args.count) (state g.S.Store c.transaction-tx.result.conn.now) =
    subst (λ h. IsMade rows (beginning c.args.count) (state g.S.Store h)) (sym c.transaction-tx.ensures.begun)
    (record { is_open = is_open; inside = refl; schema_is = schema; holds = as_counted (beginning c.args.count) old.now.trees }) in
    let made = c.in_ok-fill.ensures.made early rows (lacks six c.args.count old.now.trees) begun in
    (λ e. absurd (true≢false (sym e)), λ _ bare. made.1 c.if-not-branch.true (subst AreBare (held_few c.args.count old.now.trees c.requires.few) bare))

pub returns-then-not-branch-clause-kept : goal.returns-then-not-branch-clause-kept
returns-then-not-branch-clause-kept g c clean schema =
    let old = state g.S.Store c.args.conn.now in
    let tx = state g.S.Store c.fill.new.tx.conn.now in
    let end = c.drop-tx-then-not-branch.new.self.0 in
    let rows = counted (beginning c.args.count) old.now.trees in
    let same : end ≡ c.conn-then-not-branch-1.given.0 = search rules in
    let late : HasCleanDisk (state g.S.Store end) = subst (λ h. HasCleanDisk (state g.S.Store h)) (sym same) clean in
    let early : HasCleanDisk tx = omega (arith, late, c.drop-tx-then-not-branch.ensures.survives.clean) in
    let is_open = subst (λ h. IsTrue (state g.S.Store h).is_open) c.transaction-tx.ensures.begun (c.in_ok-fill.ensures.was_open early) in
    let begun : IsMade rows (beginning c.args.count) (state g.S.Store c.transaction-tx.result.conn.now) =
    subst (λ h. IsMade rows (beginning c.args.count) (state g.S.Store h)) (sym c.transaction-tx.ensures.begun)
    (record { is_open = is_open; inside = refl; schema_is = schema; holds = as_counted (beginning c.args.count) old.now.trees }) in
    let kept = c.in_ok-fill.ensures.kept early rows (lacks six c.args.count old.now.trees) begun c.if-not-branch.true in
    let first : KeepsCommit old tx = record {
      was_open = λ stays. subst (λ h. IsTrue (state g.S.Store h).is_open) c.transaction-tx.ensures.begun (kept.was_open stays);
      committed = λ stays. kept.committed stays ∙ ap (λ h. (state g.S.Store h).committed) c.transaction-tx.ensures.begun;
    } in
    let back = c.drop-tx-then-not-branch.ensures.undone late in
    λ _. subst (λ h. KeepsCommit old (state g.S.Store h)) same (keeps_then old tx (state g.S.Store end) first (record { was_open = back.was_open; committed = λ stays. (back.undone stays).1 }))

pub returns-clause-found : goal.returns-clause-found
returns-clause-found g c clean schema =
    let old = state g.S.Store c.args.conn.now in
    let tx = state g.S.Store c.fill.new.tx.conn.now in
    let end = c.commit.new.self.0 in
    let rows = counted (beginning c.args.count) old.now.trees in
    let same : end ≡ c.conn-2-1.given.0 = search rules in
    let late : HasCleanDisk (state g.S.Store end) = subst (λ h. HasCleanDisk (state g.S.Store h)) (sym same) clean in
    let early : HasCleanDisk tx = omega (arith, late, c.commit.ensures.survives.clean) in
    let is_open = subst (λ h. IsTrue (state g.S.Store h).is_open) c.transaction-tx.ensures.begun (c.in_ok-fill.ensures.was_open early) in
    let begun : IsMade rows (beginning c.args.count) (state g.S.Store c.transaction-tx.result.conn.now) =
    subst (λ h. IsMade rows (beginning c.args.count) (state g.S.Store h)) (sym c.transaction-tx.ensures.begun)
    (record { is_open = is_open; inside = refl; schema_is = schema; holds = as_counted (beginning c.args.count) old.now.trees }) in
    let made = (c.in_ok-fill.ensures.made early rows (lacks six c.args.count old.now.trees) begun).0 c.if-not-branch.false in (
      λ _. (subst AreBare (sym (held_few c.args.count old.now.trees c.requires.few)) made.0, subst (λ h. IsStore (state g.S.Store h) no_rows) same (committed tx (state g.S.Store end) no_rows made.1 (c.in_ok-commit.ensures.ok late).1)),
      λ e. absurd (true≢false e),
    )

pub returns-clause-crash : goal.returns-clause-crash
returns-clause-crash g c =
    let old = state g.S.Store c.args.conn.now in
    let tx = state g.S.Store c.fill.new.tx.conn.now in
    let end = c.commit.new.self.0 in
    let rows = counted (beginning c.args.count) old.now.trees in
    let P = λ (trees : Trees). IsTrue old.is_open × (old.now.schema ≡ beginning c.args.count → AreBare (held (beginning c.args.count) old.now.trees) × HoldsWhole trees no_rows) in
    let first : Survives old tx (λ _. ⊥) = survives_begin g.S.Store c.args.conn.now tx (λ _. ⊥) (subst (λ h. Survives (state g.S.Store h) tx (λ _. ⊥)) c.transaction-tx.ensures.begun c.fill.ensures.survives) in
    let begun : IsTrue old.is_open → old.now.schema ≡ beginning c.args.count → IsMade rows (beginning c.args.count) (state g.S.Store c.transaction-tx.result.conn.now) =
    λ is_open schema. subst (λ h. IsMade rows (beginning c.args.count) (state g.S.Store h)) (sym c.transaction-tx.ensures.begun)
    (record { is_open = is_open; inside = refl; schema_is = schema; holds = as_counted (beginning c.args.count) old.now.trees }) in
    let all = survives_then old tx (state g.S.Store end) (λ _. ⊥) (λ db. db ≡ tx.now.trees) P (λ _ db none. absurd none)
    (λ clean db is.
    let early : HasCleanDisk tx = omega (arith, clean, c.commit.ensures.survives.clean) in
    let is_open = subst (λ h. IsTrue (state g.S.Store h).is_open) c.transaction-tx.ensures.begun (c.in_ok-fill.ensures.was_open early) in (
      is_open,
      λ schema.
          let made = (c.in_ok-fill.ensures.made early rows (lacks six c.args.count old.now.trees) (begun is_open schema)).0 c.if-not-branch.false in
          (subst AreBare (sym (held_few c.args.count old.now.trees c.requires.few)) made.0, to_whole made.1 db is),
    ))
    first c.commit.ensures.survives in
    let same : end ≡ c.conn-2-1.given.0 = search rules in
    subst (λ h. Survives old (state g.S.Store h) P) same all

pub returns-in_err-commit-clause-crash : goal.returns-in_err-commit-clause-crash
returns-in_err-commit-clause-crash g c =
    let old = state g.S.Store c.args.conn.now in
    let tx = state g.S.Store c.fill.new.tx.conn.now in
    let end = c.commit.new.self.0 in
    let rows = counted (beginning c.args.count) old.now.trees in
    let P = λ (trees : Trees). IsTrue old.is_open × (old.now.schema ≡ beginning c.args.count → AreBare (held (beginning c.args.count) old.now.trees) × HoldsWhole trees no_rows) in
    let first : Survives old tx (λ _. ⊥) = survives_begin g.S.Store c.args.conn.now tx (λ _. ⊥) (subst (λ h. Survives (state g.S.Store h) tx (λ _. ⊥)) c.transaction-tx.ensures.begun c.fill.ensures.survives) in
    let begun : IsTrue old.is_open → old.now.schema ≡ beginning c.args.count → IsMade rows (beginning c.args.count) (state g.S.Store c.transaction-tx.result.conn.now) =
    λ is_open schema. subst (λ h. IsMade rows (beginning c.args.count) (state g.S.Store h)) (sym c.transaction-tx.ensures.begun)
    (record { is_open = is_open; inside = refl; schema_is = schema; holds = as_counted (beginning c.args.count) old.now.trees }) in
    let all = survives_then old tx (state g.S.Store end) (λ _. ⊥) (λ db. db ≡ tx.now.trees) P (λ _ db none. absurd none)
    (λ clean db is.
    let early : HasCleanDisk tx = omega (arith, clean, c.commit.ensures.survives.clean) in
    let is_open = subst (λ h. IsTrue (state g.S.Store h).is_open) c.transaction-tx.ensures.begun (c.in_ok-fill.ensures.was_open early) in (
      is_open,
      λ schema.
          let made = (c.in_ok-fill.ensures.made early rows (lacks six c.args.count old.now.trees) (begun is_open schema)).0 c.if-not-branch.false in
          (subst AreBare (sym (held_few c.args.count old.now.trees c.requires.few)) made.0, to_whole made.1 db is),
    ))
    first c.commit.ensures.survives in
    let same : end ≡ c.conn-2-1.given.0 = search rules in
    subst (λ h. Survives old (state g.S.Store h) P) same all
