use Rattle.std.proofs.Common.{◌≡◌, ◌+◌, ◌<◌, ◌∙◌, [], arith, map, length, subst, ap}
use Rattle.std.proofs.lemmas.List.{length-map}
use Rattle.sqlite.specs.Held.{state}
use Rattle.sqlite.specs.State.{HasCleanDisk}
use Rattle.sqlite_catalog.specs.Change.{next_tree}
use Rattle.sqlite.proofs.StateLemmas.{survives_then}
use Rattle.sql_tables.specs.Making.{IsMade, Makes}
use Rattle.sql_tables.specs.Described.{Description, beginning, described_view}
use Rattle.sql_tables.proofs.Calls.{keeps_then}
use Rattle.sql_tables.proofs.Shapes.{at_view, blank, whole_beginning}
use Rattle.sql_tables.proofs.making.make_rest.Goals as goal

pub tables-preserved : goal.tables-preserved
tables-preserved g c =
    let old = state g.S.Store c.args.tx.now.conn.now in
    let was = state g.S.Store c.tables.tx.conn.now in
    let now = state g.S.Store c.make.new.tx.conn.now in
    let ds = map described_view c.args.described.now in
    let at = c.tables.at in
    let so = c.tables.invariant in
    let few : at < length ds = omega (arith, length-map c.args.described.now described_view) in
    let early : HasCleanDisk now → HasCleanDisk was = λ clean. omega (arith, c.make.ensures.survives.clean) in (
      c.make.ensures.same_reference ∙ so.0,
      survives_then old was now (λ _. ⊥) (λ _. ⊥) (λ _. ⊥) (λ _ db none. none) (λ _ db none. none) so.1 c.make.ensures.survives,
      λ clean. keeps_then old was now (so.2 (early clean)) (c.make.ensures.kept clean),
      λ clean texts rows lacks is.
          let text = texts at few in
          let makes = subst (λ (d : Description). Makes (beginning ds at) d.make (beginning ds (at + 1))) (at_view c.args.described.now at blank (omega arith)) text.0 in
          let none : rows (next_tree (beginning ds at)) ≡ [] = ap rows text.1 ∙ lacks at (omega arith) few in
          c.in_ok-make.ensures.wrote clean (beginning ds at) (beginning ds (at + 1)) makes rows none (so.3 (early clean) texts rows lacks is),
      λ clean texts rows lacks is sound.
          let makes = subst (λ (d : Description). Makes (beginning ds at) d.make (beginning ds (at + 1))) (at_view c.args.described.now at blank (omega arith)) (texts at few).0 in
          c.in_ok-make.ensures.sound clean (beginning ds at) (beginning ds (at + 1)) makes rows (so.3 (early clean) texts rows lacks is),
    )

pub returns-clause-wrote : goal.returns-clause-wrote
returns-clause-wrote g c clean texts rows lacks is =
    let ds = map described_view c.args.described.now in
    subst (λ schema. IsMade rows schema (state g.S.Store c.tables.tx.conn.now)) (whole_beginning ds c.tables.at (omega (arith, length-map c.args.described.now described_view))) (c.tables.invariant.3 clean texts rows lacks is)

pub returns-clause-sound : goal.returns-clause-sound
returns-clause-sound g c clean texts rows lacks is sound = c.tables.invariant.4 clean texts rows lacks is sound
