use Rattle.std.proofs.Common.{◌≡◌, [], List, false}
use Rattle.sqlite.specs.Order.{Row}
use Rattle.sqlite.specs.Given.{HasGiven, IsPlain}
use Rattle.sqlite.specs.Held.{state}
use Rattle.sqlite.specs.Listing.{understood}
use Rattle.sqlite.specs.State.{CommitsShowing, HasCleanDisk, IsUnchanged, Survives}
use Rattle.sql_tables.proofs.stepping.each_row.Given as goal

-- the rows that were given so far are those that were taken
abbrev pub invariant-rows : goal.invariant-rows
invariant-rows g l =
    let old = state g.S.Store l.fn.conn in
    let now = state g.S.Store l.rows.conn.now in
    (l.rows.conn.ghost_name ≡ l.initial.rows.conn.ghost_name)
    × Survives old now (CommitsShowing l.sql [] old)
    × (l.fn.conn.in_transaction ≡ false → l.rows.conn.now.in_transaction ≡ false)
    × (g.T.TakeRows.Took [] l.initial.taker → (given : List Row) × g.T.TakeRows.Took given l.taker
    × (HasCleanDisk now → IsPlain (understood l.fn.conn.schema l.sql) → HasGiven g.S.Store l.sql [] l.rows.conn.now given × IsUnchanged old now))
