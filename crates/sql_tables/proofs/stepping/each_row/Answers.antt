use Rattle.std.proofs.Common.{◌≡◌, [], arith, rules, sym, subst}
use Rattle.sqlite.specs.Held.{state}
use Rattle.sqlite.specs.State.{HasCleanDisk, Shown}
use Rattle.sqlite.specs.Given.{IsPlain}
use Rattle.sqlite.specs.Listing.{understood}
use Rattle.sql_tables.proofs.Steps.{shown_from}
use Rattle.sql_tables.proofs.stepping.each_row.Goals as goal

pub returns-in_default-clause-rows : goal.returns-in_default-clause-rows
returns-in_default-clause-rows g c starts =
    let old = state g.S.Store c.args.conn.now in
    let was = c.rows.rows.conn.now in
    let now = c.advance.new.self.conn.now in
    let so = c.rows.invariant.3 starts in
    let rest : HasCleanDisk (state g.S.Store now) → IsPlain (understood c.args.conn.now.schema c.args.sql.now) → Shown c.args.sql.now [] old (state g.S.Store now) so.0 = λ late plain.
    let given = so.2 (omega (arith, late, c.advance.ensures.survives.clean)) plain in
    let shown : Shown c.args.sql.now [] (state g.S.Store was) (state g.S.Store now) so.0 = (rw (sym c.get.ensures, c.in_default.is) at (c.in_ok-advance.ensures.ok late)) c.args.sql.now [] so.0 given.0 in
    shown_from c.args.sql.now [] old (state g.S.Store was) (state g.S.Store now) so.0 plain given.1 shown in
    let same : now ≡ c.conn-in_default-1.given.0 = search rules in
    (so.0, so.1, λ late plain. subst (λ h. Shown c.args.sql.now [] old (state g.S.Store h) so.0) same (rest (subst (λ h. HasCleanDisk (state g.S.Store h)) (sym same) late) plain))
