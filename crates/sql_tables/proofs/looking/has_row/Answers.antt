use Rattle.std.proofs.Common.{◌≢◌, ◌∙◌, [], subst, sym, refl}
use Rattle.sqlite.specs.Held.{state}
use Rattle.sql_tables.proofs.Calls.{asked_none, asked_same, asked_some, shown_was_open}
use Rattle.sql_tables.proofs.looking.has_row.Goals as goal

pub returns-clause-rows : goal.returns-clause-rows
returns-clause-rows g c clean tree asks =
    let old = state g.S.Store c.args.tx.now.conn.now in
    let new = state g.S.Store c.query_all.new.self.conn.now in
    let shown = c.in_ok-rows.ensures.ok clean in (
      λ none. asked_none old.now.schema c.args.sql.now tree asks old new c.in_ok-rows.rows.items refl shown (sym c.as_slice.ensures.value ∙ c.is_any.ensures.none none),
      λ some. asked_some old.now.schema c.args.sql.now tree asks old new c.in_ok-rows.rows.items refl shown (subst (λ rs. rs ≢ []) c.as_slice.ensures.value (c.is_any.ensures.some some)),
    )

pub returns-clause-unchanged : goal.returns-clause-unchanged
returns-clause-unchanged g c clean tree asks =
    let old = state g.S.Store c.args.tx.now.conn.now in
    asked_same old.now.schema c.args.sql.now tree asks old (state g.S.Store c.query_all.new.self.conn.now) c.in_ok-rows.rows.items refl (c.in_ok-rows.ensures.ok clean)

pub returns-clause-was_open : goal.returns-clause-was_open
returns-clause-was_open g c clean =
    shown_was_open _ _ (state g.S.Store c.args.tx.now.conn.now) (state g.S.Store c.query_all.new.self.conn.now) c.in_ok-rows.rows.items (c.in_ok-rows.ensures.ok clean)
