use Rattle.std.proofs.Common.{◌≡◌, arith, rules, sym, subst, refl, IsTrue, OnOk}
use Rattle.sqlite_trees.specs.Tree.{Trees}
use Rattle.sqlite.specs.Effect.{IsDatabase}
use Rattle.sqlite.specs.Held.{state}
use Rattle.sqlite.specs.State.{HasCleanDisk, Survives}
use Rattle.sqlite.proofs.StateLemmas.{survives_then}
use Rattle.sqlite.proofs.Callers.{survives_begin}
use Rattle.sql_tables.specs.Making.{IsMade}
use Rattle.sql_tables.proofs.Calls.{OnOk_then}
use Rattle.leaf_plans.specs.Book.{no_book}
use Rattle.leaf_book.specs.Rows.{HoldsWhole, IsRecorded}
use Rattle.leaf_book.specs.Schema.{no_schema}
use Rattle.leaf_book.specs.steps.Making.{nowhere}
use Rattle.leaf_book.proofs.BookLemmas.{committed, whole_book}
use Rattle.leaf_book.proofs.making.make_tables.Goals as goal

pub returns-clause-wrote : goal.returns-clause-wrote
returns-clause-wrote g c clean schema =
    let old = state g.S.Store c.args.conn.now in
    let tx = state g.S.Store c.make_both.new.tx.conn.now in
    let end = c.commit.new.self.0 in
    let same : end ≡ c.conn-2-1.given.0 = search rules in
    let late : HasCleanDisk (state g.S.Store end) = subst (λ h. HasCleanDisk (state g.S.Store h)) (sym same) clean in
    let early : HasCleanDisk tx = omega (arith, late, c.commit.ensures.survives.clean) in
    subst (λ h. OnOk c.commit.result (IsRecorded (state g.S.Store h) no_book)) same
    (OnOk_then c.commit.result (c.commit.ensures.ok late) (λ done.
    let is_open = (c.in_ok-make_both.ensures.kept early).was_open done.1.was_open in
    let begun : IsMade nowhere no_schema (state g.S.Store c.transaction-tx.result.conn.now) =
    subst (λ h. IsMade nowhere no_schema (state g.S.Store h)) (sym c.transaction-tx.ensures.begun)
    (record { is_open = subst (λ h. IsTrue (state g.S.Store h).is_open) c.transaction-tx.ensures.begun is_open; inside = refl; schema_is = schema; holds = tt }) in
    committed tx (state g.S.Store end) (c.in_ok-make_both.ensures.wrote early begun) done.1))

pub returns-clause-crash : goal.returns-clause-crash
returns-clause-crash g c =
    let old = state g.S.Store c.args.conn.now in
    let tx = state g.S.Store c.make_both.new.tx.conn.now in
    let end = c.commit.new.self.0 in
    let P = λ (trees : Trees). IsTrue old.is_open → old.now.schema ≡ no_schema → IsDatabase old.now → HoldsWhole trees no_book in
    let first : Survives old tx (λ _. ⊥) = survives_begin g.S.Store c.args.conn.now tx (λ _. ⊥) (subst (λ h. Survives (state g.S.Store h) tx (λ _. ⊥)) c.transaction-tx.ensures.begun c.make_both.ensures.survives) in
    let all = survives_then old tx (state g.S.Store end) (λ _. ⊥) (λ db. db ≡ tx.now.trees) P (λ _ db none. absurd none)
    (λ clean db is is_open schema sound.
    let early : HasCleanDisk tx = omega (arith, clean, c.commit.ensures.survives.clean) in
    let begun : IsMade nowhere no_schema (state g.S.Store c.transaction-tx.result.conn.now) =
    subst (λ h. IsMade nowhere no_schema (state g.S.Store h)) (sym c.transaction-tx.ensures.begun)
    (record { is_open = is_open; inside = refl; schema_is = schema; holds = tt }) in
    let made = c.in_ok-make_both.ensures.wrote early begun in
    let whole = c.in_ok-make_both.ensures.sound early begun (subst (λ h. IsDatabase (state g.S.Store h).now) (sym c.transaction-tx.ensures.begun) sound) in
    whole_book tx db (sym is) whole made)
    first c.commit.ensures.survives in
    let same : end ≡ c.conn-2-1.given.0 = search rules in
    subst (λ h. Survives old (state g.S.Store h) P) same all
