use Rattle.std.proofs.Common.{arith, refl, sym, subst}
use Rattle.std.specs.Prelude.{IfOk, IsTrue, None}
use Rattle.sqlite.specs.Held.{state}
use Rattle.sqlite.specs.State.{HasCleanDisk}
use Rattle.trust_rules.specs.Grants.{grants}
use Rattle.machine.specs.Serving.{ListsDigest, Refuses}
use Rattle.trust_rules.specs.State.{State}
use Rattle.store.specs.Standing.{StandsAt, seen}
use Rattle.store.specs.StateRows.{rows_of}
use Rattle.store.specs.Ticks.{TicksFew}
use Rattle.store.proofs.Fitting.{blobs_keyed}
use Rattle.store.proofs.Loads.{holds_blobs}
use Rattle.store.proofs.Standings.{reads_if, stands_on, store_at}
use Rattle.store.proofs.Targets.{refuses_map}
use Rattle.store.proofs.store.Store.get_counted.Goals as goal

pub invariant_of-self : goal.invariant_of-self
invariant_of-self g c =
    let (U, of, rows) = c.self.invariant in
    let reads = reads_if (λ k. state g.S.Store k) c.self.inside.rows c.get_from_counted.new.blobs c.get_from_counted.ensures.becomes in (
      U,
      of,
      (λ clean there. reads.kept clean there (rows_of U) (rows (omega (arith, clean, reads.survives.clean)) (reads.was_open clean there))),
    )

pub returns-clause-keeps : goal.returns-clause-keeps
returns-clause-keeps g c =
    let inside = c.self.inside in
    let reads = reads_if (λ k. state g.S.Store k) inside.rows c.get_from_counted.new.blobs c.get_from_counted.ensures.becomes in
    record {
      state = λ U at.
          let within = subst (λ s. StandsAt (seen s.kept (state g.S.Store s.conn)) U) (sym c.self.view_is) at in
          (U, stands_on inside.held.held inside.held.held (state g.S.Store inside.rows) (state g.S.Store c.get_from_counted.new.blobs) refl reads U within, refl);
      clean = λ clean.
          subst (λ s. HasCleanDisk (state g.S.Store s.conn)) c.self.view_is (omega (arith, clean, reads.survives.clean));
    }

pub returns-clause-answer : goal.returns-clause-answer
returns-clause-answer g c clean there U at =
    let inside = c.self.inside in
    let within = subst (λ s. StandsAt (seen s.kept (state g.S.Store s.conn)) U) (sym c.self.view_is) at in
    let reads = reads_if (λ k. state g.S.Store k) inside.rows c.get_from_counted.new.blobs c.get_from_counted.ensures.becomes in
    let is = store_at inside.held.held (state g.S.Store inside.rows) U within (omega (arith, clean, reads.survives.clean)) (reads.was_open clean there) in
    c.get_from_counted.ensures.answer (clean, there) U (record {
      valid = at.state.valid;
      held = within.state.held;
      blobs = holds_blobs (state g.S.Store inside.rows) U at.state.valid (blobs_keyed U at.state.valid) is;
    })

pub returns-clause-denial : goal.returns-clause-denial
returns-clause-denial g c =
    let new = state g.S.Store c.get_from_counted.new.blobs in
    subst (λ s. Refuses s.kept (λ (U : State). grants U c.args.path.now None c.args.now) c.args.path.now c.args.now (IsTrue (state g.S.Store s.conn).is_open → IsTrue new.is_open) (HasCleanDisk new → IsTrue new.is_open) c.get_from_counted.result) c.self.view_is
    (refuses_map _ _ _ _ _ _ _ _ c.get_from_counted.result (λ same was. subst (λ k. IsTrue (state g.S.Store k).is_open) (sym same) was) (λ l. l) c.get_from_counted.ensures.denial)

pub returns-clause-ticks : goal.returns-clause-ticks
returns-clause-ticks g c =
    subst (λ s. TicksFew s.kept.trusted c.args.path.now c.args.now c.args.checks.now c.get_from_counted.new.checks) c.self.view_is
    (_, c.is_known.ensures, c.get_from_counted.ensures.counted)

pub returns-clause-lists : goal.returns-clause-lists
returns-clause-lists g c =
    subst (λ s. IfOk c.get_from_counted.result (λ t. ListsDigest s.kept.trusted c.args.path.now None c.args.now t.digest.0)) c.self.view_is c.get_from_counted.ensures.lists
