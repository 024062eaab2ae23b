use Rattle.std.proofs.Common.{◌≡◌, inr, Err, ap, subst, sym, arith, true≢false}
use Rattle.sqlite.specs.Effect.{Database}
use Rattle.sqlite.specs.Held.{state}
use Rattle.sqlite.specs.State.{HasCleanDisk, KeepsCommit}
use Rattle.repository_rows.specs.Contents.{no_rows}
use Rattle.table_rows.specs.Tables.{AreBare, IsStore}
use Rattle.sql_tables.proofs.Calls.{unchanged_keeps}
use Rattle.sql_tables.proofs.Gathering.{handed_on}
use Rattle.table_rows.proofs.Beginnings.{some_after}
use Rattle.table_rows.specs.Schema.{held}
use Rattle.repository_tables.proofs.Openings.{began, early_store, late_store, stands_as}
use Rattle.repository_tables.proofs.opening.load.Goals as goal

pub returns-in_err-rows-clause-damaged : goal.returns-in_err-rows-clause-damaged
returns-in_err-rows-clause-damaged g c schema live clean is t fit right stands = c.in_err-rows.ensures.damaged clean schema (ap Err (handed_on c.from_residual.result c.from_residual.ensures.1 is)) t fit right stands.1

pub returns-in_err-rows-clause-kept : goal.returns-in_err-rows-clause-kept
returns-in_err-rows-clause-kept g c schema clean is = c.in_err-rows.ensures.kept clean schema (ap Err (handed_on c.from_residual.result c.from_residual.ensures.1 is))

pub returns-in_err-begin_bare-clause-damaged : goal.returns-in_err-begin_bare-clause-damaged
returns-in_err-begin_bare-clause-damaged g c schema live clean is t fit right stands =
    let early : HasCleanDisk (state g.S.Store c.read_tables.new.conn) = omega (arith, clean, c.begin_bare.ensures.crash.clean) in
    let it = c.in_ok-rows.ensures.read in
    let told = c.in_err-begin_bare.ensures.damaged (ap Err (handed_on c.from_residual-in_err-begin_bare.result c.from_residual-in_err-begin_bare.ensures.1 is)) in
    ((it.2 early schema live).1 c.if-is_begun.false).other (c.are_none.ensures.no told it.0 it.1) t stands.1

pub returns-in_err-begin_bare-clause-kept : goal.returns-in_err-begin_bare-clause-kept
returns-in_err-begin_bare-clause-kept g c some clean is =
    let old = state g.S.Store c.args.conn.now in
    let mid = state g.S.Store c.read_tables.new.conn in
    let early : HasCleanDisk mid = omega (arith, clean, c.begin_bare.ensures.crash.clean) in
    let other = c.in_err-begin_bare.ensures.damaged (ap Err (handed_on c.from_residual-in_err-begin_bare.result c.from_residual-in_err-begin_bare.ensures.1 is)) in
    subst (λ h. KeepsCommit old (state g.S.Store h)) (sym (c.begin_bare.ensures.told other).1) (unchanged_keeps old mid (c.in_ok-rows.ensures.unchanged early some))

pub returns-in_err-begin_bare-clause-crash : goal.returns-in_err-begin_bare-clause-crash
returns-in_err-begin_bare-clause-crash g c live =
    let it = c.in_ok-rows.ensures.read in
    began c.args.count (state g.S.Store c.args.conn.now) (state g.S.Store c.read_tables.new.conn) (state g.S.Store c.begin_bare.new.conn) c.are_none.result c.in_ok-rows.ensures.unchanged
    (λ early schema yes. ((it.2 early schema live).1 c.if-is_begun.false).bare (c.are_none.ensures.yes yes it.0 it.1))
    c.read_tables.ensures.survives c.begin_bare.ensures.crash

pub returns-clause-crash : goal.returns-clause-crash
returns-clause-crash g c live =
    let it = c.in_ok-rows.ensures.read in
    began c.args.count (state g.S.Store c.args.conn.now) (state g.S.Store c.read_tables.new.conn) (state g.S.Store c.begin_bare.new.conn) c.are_none.result c.in_ok-rows.ensures.unchanged
    (λ early schema yes. ((it.2 early schema live).1 c.if-is_begun.false).bare (c.are_none.ensures.yes yes it.0 it.1))
    c.read_tables.ensures.survives c.begin_bare.ensures.crash

pub returns-then-is_begun-clause-loaded : goal.returns-then-is_begun-clause-loaded
returns-then-is_begun-clause-loaded g c =
    let it = c.in_ok-rows.ensures.read in
    let old = state g.S.Store c.args.conn.now in
    let new = state g.S.Store c.read_tables.new.conn in (
      it.0,
      it.1,
      λ some live clean settled.
          let holds = (it.2 clean some live).0 c.if-is_begun.true in
          let same = c.in_ok-rows.ensures.unchanged clean some in (
            stands_as c.in_ok-rows.is_first _ it.0 holds,
            (λ late. let both = c.is_early.ensures.late late in late_store c.args.count old new it.0 c.in_ok-rows.is_first same (settled same.0.was_open) some holds both.0 both.1),
            (λ flag. early_store c.args.count old new it.0 c.in_ok-rows.is_first same (settled same.0.was_open) some holds (c.is_early.ensures.early flag)),
          ),
    )

pub returns-clause-loaded : goal.returns-clause-loaded
returns-clause-loaded g c =
    let it = c.in_ok-rows.ensures.read in
    let new = state g.S.Store c.begin_bare.new.conn in (
      it.0,
      it.1,
      λ some live clean settled.
          let early : HasCleanDisk (state g.S.Store c.read_tables.new.conn) = omega (arith, clean, c.begin_bare.ensures.crash.clean) in
          let none : it.0 ≡ no_rows = c.are_none.ensures.yes c.in_ok-begin_bare.ensures.bare it.0 it.1 in
          let bare = ((it.2 early some live).1 c.if-is_begun.false).bare none in
          let same = c.in_ok-rows.ensures.unchanged early some in
          let done = c.in_ok-begin_bare.ensures.begun clean (some_after c.args.count same.0.now_is some) (subst (λ (d : Database). AreBare (held d.schema d.trees)) (sym same.0.now_is) bare) in
          (inr (inr (bare, none)), (λ _. subst (IsStore new) (sym none) done), λ e. absurd (true≢false (sym e))),
    )
