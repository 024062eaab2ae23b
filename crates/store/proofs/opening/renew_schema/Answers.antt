use Rattle.std.proofs.Common.{◌∙◌, map, ap, sym}
use Rattle.sqlite.specs.Held.{state}
use Rattle.sqlite.proofs.StateLemmas.{survives_weaker}
use Rattle.trust_rules.specs.Contents.{root_rows}
use Rattle.trust_rules.specs.Held.{Held}
use Rattle.store.specs.StateRows.{rows_of}
use Rattle.store.proofs.Renewing.{early_first, with_ones}
use Rattle.store.proofs.opening.renew_schema.Goals as goal

pub returns-clause-wrote : goal.returns-clause-wrote
returns-clause-wrote g c clean is_earlier U is early =
    let held = ap (λ (h : Held). map (λ r. (r.0, r.1.1)) (root_rows h.trusted 0 h.trusted.roots)) (sym is.held) in
    let roots = with_ones (λ r. (r.0, r.1.now)) c.in_ok-roots.roots.items (rows_of U).roots (early_first (state g.S.Store c.args.conn.now) (rows_of U) early)
    (c.in_ok-roots.ensures ∙ held) in
    c.migrate.ensures.wrote clean (rows_of U) early (roots ∙ ap (map (λ r. (r.0, (1, r.1.now)))) (sym c.deref.ensures.value))

pub returns-clause-crash : goal.returns-clause-crash
returns-clause-crash g c =
    survives_weaker (state g.S.Store c.args.conn.now) (state g.S.Store c.migrate.new.conn) _ _
    (λ _ trees made. (
      c.if-not-is_earlier.false,
      λ U is early.
          let held = ap (λ (h : Held). map (λ r. (r.0, r.1.1)) (root_rows h.trusted 0 h.trusted.roots)) (sym is.held) in
          let roots = with_ones (λ r. (r.0, r.1.now)) c.in_ok-roots.roots.items (rows_of U).roots (early_first (state g.S.Store c.args.conn.now) (rows_of U) early)
          (c.in_ok-roots.ensures ∙ held) in
          made (rows_of U) early (roots ∙ ap (map (λ r. (r.0, (1, r.1.now)))) (sym c.deref.ensures.value)),
    ))
    c.migrate.ensures.crash
