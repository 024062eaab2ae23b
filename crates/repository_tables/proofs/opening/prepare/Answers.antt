use Rattle.std.proofs.Common.{◌≡◌, ◌<◌, ◌∙◌, inr, false, refl, subst, sym, arith, true≢false}
use Rattle.sqlite.specs.Held.{state}
use Rattle.sqlite.specs.State.{HasCleanDisk}
use Rattle.repository_rows.specs.Contents.{no_rows}
use Rattle.table_rows.specs.Schema.{beginning, held}
use Rattle.table_rows.specs.Reading.{IsReadAs}
use Rattle.table_rows.specs.Tables.{AreBare, IsStore, StandsFor}
use Rattle.table_rows.specs.Schema.{HasSome}
use Rattle.table_rows.proofs.Beginnings.{are_most, are_some, begins_few, begins_some, not_most}
use Rattle.sql_tables.proofs.Calls.{IfOk_then}
use Rattle.repository_tables.proofs.Openings.{both_ok}
use Rattle.repository_tables.proofs.opening.prepare.Goals as goal

pub returns-then-count-ge5-clause-made : goal.returns-then-count-ge5-clause-made
returns-then-count-ge5-clause-made g c clean count few schema =
    let most : HasSome c.in-Some.count c.args.conn.now.schema = subst (HasSome c.in-Some.count) c.schema.ensures.value (are_most c.in-Some.count _ c.in-Some.ensures c.if-count-ge5.true) in
    absurd (not_most count c.in-Some.count c.args.conn.now.schema few schema most)

pub returns-then-count-ge5-clause-damaged : goal.returns-then-count-ge5-clause-damaged
returns-then-count-ge5-clause-damaged g c clean is t fit right stands =
    let most : HasSome c.in-Some.count c.args.conn.now.schema = subst (HasSome c.in-Some.count) c.schema.ensures.value (are_most c.in-Some.count _ c.in-Some.ensures c.if-count-ge5.true) in
    c.load.ensures.damaged most c.schema.ensures.live clean is t fit right stands

pub returns-clause-damaged : goal.returns-clause-damaged
returns-clause-damaged g c clean is t fit right stands =
    let few : c.in-Some.count < 5 = omega (arith, c.if-count-ge5.false) in
    let schema : c.args.conn.now.schema ≡ beginning c.in-Some.count = sym c.schema.ensures.value ∙ are_some c.in-Some.count _ c.in-Some.ensures few in
    c.complete_bare.ensures.damaged schema clean is t fit right stands

pub returns-then-count-ge5-clause-kept : goal.returns-then-count-ge5-clause-kept
returns-then-count-ge5-clause-kept g c clean is =
    let most : HasSome c.in-Some.count c.args.conn.now.schema = subst (HasSome c.in-Some.count) c.schema.ensures.value (are_most c.in-Some.count _ c.in-Some.ensures c.if-count-ge5.true) in
    c.load.ensures.kept most clean is

pub returns-clause-kept : goal.returns-clause-kept
returns-clause-kept g c clean is =
    let schema : c.args.conn.now.schema ≡ beginning c.in-Some.count = sym c.schema.ensures.value ∙ are_some c.in-Some.count _ c.in-Some.ensures (omega (arith, c.if-count-ge5.false)) in
    c.complete_bare.ensures.kept schema clean is

pub returns-then-count-ge5-clause-loaded : goal.returns-then-count-ge5-clause-loaded
returns-then-count-ge5-clause-loaded g c =
    let most : HasSome c.in-Some.count c.args.conn.now.schema = subst (HasSome c.in-Some.count) c.schema.ensures.value (are_most c.in-Some.count _ c.in-Some.ensures c.if-count-ge5.true) in
    IfOk_then c.load.result c.load.ensures.loaded (λ r it. (
      it.0,
      it.1,
      λ clean settled.
          let all = it.2 most c.schema.ensures.live clean settled in
          ((begins_some c.in-Some.count _ most, all.0), all.1, all.2),
    ))

pub returns-clause-loaded : goal.returns-clause-loaded
returns-clause-loaded g c =
    let trees = (state g.S.Store c.args.conn.now).now.trees in
    let few : c.in-Some.count < 5 = omega (arith, c.if-count-ge5.false) in
    let schema : c.args.conn.now.schema ≡ beginning c.in-Some.count = sym c.schema.ensures.value ∙ are_some c.in-Some.count _ c.in-Some.ensures few in
    let H = HasCleanDisk (state g.S.Store c.complete_bare.new.conn) in
    let Q = AreBare (held (beginning c.in-Some.count) trees) × IsStore (state g.S.Store c.complete_bare.new.conn) no_rows in
    let all = both_ok (λ r. IsReadAs r.0 r.1.items no_rows × (r.2 ≡ false)) H Q c.complete_bare.result c.complete_bare.ensures.empty (λ clean. c.complete_bare.ensures.made clean schema) in
    IfOk_then c.complete_bare.result all (λ r it. (
      no_rows,
      it.0.0,
      λ clean settled.
          let both = it.1 clean in
          ((begins_few c.in-Some.count _ few schema, subst (λ s. StandsFor (held s trees) no_rows) (sym schema) (inr (inr (both.0, refl)))), (λ _. both.1), λ early. absurd (true≢false (sym early ∙ it.0.1))),
    ))
