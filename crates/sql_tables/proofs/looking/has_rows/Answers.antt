use Rattle.std.proofs.Common.{◌≡◌, ◌<◌, ◌∙◌, [], inl, inr, ℕ, arith, map, length, subst₂, sym, ap, true≢false}
use Rattle.std.proofs.lemmas.Bool.{cases_lt}
use Rattle.std.proofs.lemmas.List.{length-map}
use Rattle.sqlite.specs.Effect.{Database}
use Rattle.sqlite.specs.Held.{state}
use Rattle.sqlite.specs.State.{HasCleanDisk}
use Rattle.sqlite.specs.Schema.{Schema}
use Rattle.sqlite.proofs.StateLemmas.{survives_then}
use Rattle.sql_tables.specs.Making.{Queries}
use Rattle.sql_tables.specs.Described.{AllLook, Description, described_view, schema_of, tree_from}
use Rattle.sql_tables.proofs.Calls.{Same, same_then, same_unchanged}
use Rattle.sql_tables.proofs.Shapes.{at_view, blank, empty_by_place, at_each}
use Rattle.sql_tables.proofs.looking.has_rows.Goals as goal

pub returns-then-branch-clause-rows : goal.returns-then-branch-clause-rows
returns-then-branch-clause-rows g c clean texts schema =
    let old = state g.S.Store c.args.tx.now.conn.now in
    let was = state g.S.Store c.looks.tx.conn.now in
    let ds = map described_view c.args.described.now in
    let at = c.looks.at in
    let few : at < length ds = omega (arith, length-map c.args.described.now described_view) in
    let early : HasCleanDisk was = omega (arith, clean, c.has_row.ensures.survives.clean) in
    let same : Same old was = c.looks.invariant.4 early texts schema in
    let known = ap (λ (d : Database). d.schema) same.now_is ∙ schema in
    let asks = subst₂ (λ (s : Schema) (d : Description). Queries s d.look (tree_from 0 ds at)) (sym known) (at_view c.args.described.now at blank (omega arith)) (texts at few) in
    let rows = c.in_ok-has_row.ensures.rows clean (tree_from 0 ds at) asks in
    (λ e. absurd (true≢false e), λ _ bare. rows.1 c.if-branch.true (ap (λ (d : Database). d.trees (tree_from 0 ds at)) same.now_is ∙ at_each (λ t. old.now.trees t ≡ []) 0 ds bare at few))

pub returns-then-branch-clause-unchanged : goal.returns-then-branch-clause-unchanged
returns-then-branch-clause-unchanged g c clean texts schema =
    let old = state g.S.Store c.args.tx.now.conn.now in
    let was = state g.S.Store c.looks.tx.conn.now in
    let now = state g.S.Store c.has_row.new.tx.conn.now in
    let ds = map described_view c.args.described.now in
    let at = c.looks.at in
    let few : at < length ds = omega (arith, length-map c.args.described.now described_view) in
    let early : HasCleanDisk was = omega (arith, clean, c.has_row.ensures.survives.clean) in
    let same : Same old was = c.looks.invariant.4 early texts schema in
    let known = ap (λ (d : Database). d.schema) same.now_is ∙ schema in
    let asks = subst₂ (λ (s : Schema) (d : Description). Queries s d.look (tree_from 0 ds at)) (sym known) (at_view c.args.described.now at blank (omega arith)) (texts at few) in
    let more = c.in_ok-has_row.ensures.unchanged clean (tree_from 0 ds at) asks in
    same_unchanged old now (sym same.open_is ∙ more.0.was_open) (same_then old was now same more)

pub looks-preserved : goal.looks-preserved
looks-preserved g c =
    let old = state g.S.Store c.args.tx.now.conn.now in
    let was = state g.S.Store c.looks.tx.conn.now in
    let now = state g.S.Store c.has_row.new.tx.conn.now in
    let ds = map described_view c.args.described.now in
    let at = c.looks.at in
    let so = c.looks.invariant in
    let few : at < length ds = omega (arith, length-map c.args.described.now described_view) in
    let early : HasCleanDisk now → HasCleanDisk was = λ clean. omega (arith, c.has_row.ensures.survives.clean) in
    let asks = λ (same : Same old was) (schema : old.now.schema ≡ schema_of ds) (texts : AllLook ds).
    subst₂ (λ (s : Schema) (d : Description). Queries s d.look (tree_from 0 ds at)) (sym (ap (λ (d : Database). d.schema) same.now_is ∙ schema)) (at_view c.args.described.now at blank (omega arith)) (texts at few) in (
      c.has_row.ensures.same_reference ∙ so.0,
      survives_then old was now (λ _. ⊥) (λ _. ⊥) (λ _. ⊥) (λ _ db none. none) (λ _ db none. none) so.1 c.has_row.ensures.survives,
      λ e. absurd (omega (arith, e)),
      λ _ clean. elim (cases_lt 0 at) [
        | inl later ↦ so.3 later (early clean)
        | inr first ↦ sym (so.2 (omega (arith, first))) ∙ c.in_ok-has_row.ensures.was_open clean
      ],
      λ clean texts schema. let same = so.4 (early clean) texts schema in same_then old was now same (c.in_ok-has_row.ensures.unchanged clean (tree_from 0 ds at) (asks same schema texts)),
      λ clean texts schema n below. elim (cases_lt n at) [
        | inl sooner ↦ so.5 (early clean) texts schema n sooner
        | inr here ↦
            let same = so.4 (early clean) texts schema in
            let n_is : n ≡ at = omega (arith, below, here) in
            ap (λ k. old.now.trees (tree_from 0 ds k)) n_is ∙ sym (ap (λ (d : Database). d.trees (tree_from 0 ds at)) same.now_is) ∙ (c.in_ok-has_row.ensures.rows clean (tree_from 0 ds at) (asks same schema texts)).0 c.if-branch.false
      ],
    )

pub returns-clause-rows : goal.returns-clause-rows
returns-clause-rows g c clean texts schema =
    let old = state g.S.Store c.args.tx.now.conn.now in
    let ds = map described_view c.args.described.now in
    let all : (n : ℕ) → n < length ds → old.now.trees (tree_from 0 ds n) ≡ [] = λ n below. c.looks.invariant.5 clean texts schema n (omega (arith, below, length-map c.args.described.now described_view)) in
    (λ _. empty_by_place old.now.trees 0 ds all, λ e. absurd (true≢false (sym e)))
