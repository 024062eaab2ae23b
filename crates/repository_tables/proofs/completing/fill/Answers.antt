use Rattle.std.proofs.Common.{true≢false, arith}
use Rattle.sqlite.specs.Held.{state}
use Rattle.sqlite.specs.State.{HasCleanDisk}
use Rattle.sql_tables.proofs.Beginnings.{bare_made}
use Rattle.sql_tables.proofs.Calls.{made_same, keeps_then, unchanged_keeps}
use Rattle.table_rows.specs.Schema.{the_schema}
use Rattle.repository_tables.proofs.MakingLemmas.{made_bare, made_six}
use Rattle.repository_tables.proofs.completing.fill.Goals as goal

pub returns-clause-made : goal.returns-clause-made
returns-clause-made g c clean rows lacks is =
    let one = state g.S.Store c.make_rest.new.tx.conn.now in
    let two = state g.S.Store c.has_rows.new.tx.conn.now in
    let late : HasCleanDisk two = omega (arith, clean, c.put_version.ensures.uncommitted.survives.clean) in
    let early : HasCleanDisk one = omega (arith, late, c.has_rows.ensures.survives.clean) in
    let full = c.in_ok-make_rest.ensures.wrote early rows lacks is in
    let bare = bare_made rows the_schema one full ((c.in_ok-has_rows.ensures.rows late full.schema_is).0 c.if-branch.false) in
    let same = c.in_ok-has_rows.ensures.unchanged late full.schema_is in
    let after = made_same rows the_schema one two same full in
    (λ _. (bare, c.in_ok-put_version.ensures.wrote clean after.is_open after.inside (made_six rows two after) (made_bare rows two after bare)), λ e. absurd (true≢false e))

pub returns-then-branch-clause-kept : goal.returns-then-branch-clause-kept
returns-then-branch-clause-kept g c clean rows lacks is =
    let old = state g.S.Store c.args.tx.now.conn.now in
    let one = state g.S.Store c.make_rest.new.tx.conn.now in
    let two = state g.S.Store c.has_rows.new.tx.conn.now in
    let early : HasCleanDisk one = omega (arith, clean, c.has_rows.ensures.survives.clean) in
    let full = c.in_ok-make_rest.ensures.wrote early rows lacks is in
    λ _. keeps_then old one two (c.make_rest.ensures.uncommitted.kept early) (unchanged_keeps one two (c.in_ok-has_rows.ensures.unchanged clean full.schema_is))
