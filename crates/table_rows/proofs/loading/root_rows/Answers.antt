use Rattle.std.proofs.Common.{[]}
use Rattle.sqlite.specs.Held.{state}
use Rattle.sqlite.proofs.StateLemmas.{unchanged}
use Rattle.sql_tables.proofs.Calls.{IfOk_then}
use Rattle.table_rows.proofs.Absent.{absent_gathered, absent_loaded, all_six, none_come}
use Rattle.table_rows.proofs.loading.root_rows.Goals as goal

pub returns-then-count-eq5-clause-rows : goal.returns-then-count-eq5-clause-rows
returns-then-count-eq5-clause-rows g c =
    let s = state g.S.Store c.args.conn.now in
    ([], (λ _. none_come), absent_gathered c.new.result c.new.ensures.items, λ clean some. absent_loaded c.args.count s.now.schema s.now.trees c.if-count-eq5.true some)

pub returns-then-count-eq5-clause-unchanged : goal.returns-then-count-eq5-clause-unchanged
returns-then-count-eq5-clause-unchanged g c clean some there = unchanged (state g.S.Store c.args.conn.now) there

pub returns-clause-rows : goal.returns-clause-rows
returns-clause-rows g c =
    let s = state g.S.Store c.args.conn.now in
    IfOk_then c.second_rows.result c.second_rows.ensures.rows (λ p it. (
      it.0,
      it.1,
      it.2,
      λ clean some.
          let has = all_six c.args.count s.now.schema c.if-count-eq5.false some in
          it.3 clean has,
    ))

pub returns-clause-unchanged : goal.returns-clause-unchanged
returns-clause-unchanged g c clean some there = c.second_rows.ensures.read_only.unchanged clean (all_six c.args.count (state g.S.Store c.args.conn.now).now.schema c.if-count-eq5.false some)
