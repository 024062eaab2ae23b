use Rattle.std.proofs.Common.{◌≡◌, ◌∙◌, inl, inr, ap, arith, sym, subst}
use Rattle.std.specs.Prelude.{IsTrue}
use Rattle.sqlite.specs.Held.{state}
use Rattle.trust_rules.specs.Effects.{Effects, applied}
use Rattle.trust_rules.specs.Held.{Held, IsHeld, held_of, held_with}
use Rattle.trust_rules.specs.State.{State}
use Rattle.machine.specs.PartViews.{effects_view}
use Rattle.store.specs.Standing.{IsStateOf, StandsAt, seen}
use Rattle.store.specs.StateRows.{rows_of}
use Rattle.store.proofs.Applying.{on_err}
use Rattle.store.proofs.Standings.{stands_at, store_at}
use Rattle.store.proofs.store.Store.keep.Goals as goal

-- changes make of what is held what they make of the state
held_after : ((S : State) (E : Effects) → held_of (applied S E) ≡ held_with (held_of S) E) → (H : Held) (U : State) (E : Effects) → held_of U ≡ H → held_of (applied U E) ≡ held_with H E
held_after follows H U E same = follows U E ∙ ap (λ K. held_with K E) same

pub invariant_of-self-in_err-write : goal.invariant_of-self-in_err-write
invariant_of-self-in_err-write g c =
    let (U, of, rows) = c.self.invariant in (
      U,
      subst (λ H. IsStateOf H U) (sym c.in_ok-room.ensures.kept) of,
      (λ clean there.
          c.in_err-write.ensures.kept clean there (rows_of U) (rows (omega (arith, clean, c.write.ensures.crash.clean)) (c.write.ensures.was_open clean there))),
    )

pub returns-in_err-write-clause-kept : goal.returns-in_err-write-clause-kept
returns-in_err-write-clause-kept g c U at =
    let inside = c.self.inside in
    let within = subst (λ s. StandsAt (seen s.kept (state g.S.Store s.conn)) U) (sym c.self.view_is) at in
    on_err _ c.from_residual-in_err-write.result
    (stands_at c.room.new.self.held (state g.S.Store c.write.new.self) U (subst (λ H. IsStateOf H U) (sym c.in_ok-room.ensures.kept) within.state)
    (λ clean there. c.in_err-write.ensures.kept clean there (rows_of U)
    (store_at inside.held.held (state g.S.Store inside.rows) U within (omega (arith, clean, c.write.ensures.crash.clean)) (c.write.ensures.was_open clean there))))

pub returns-in_err-write-clause-crash : goal.returns-in_err-write-clause-crash
returns-in_err-write-clause-crash g c clean was U at trees may =
    let inside = c.self.inside in
    let within = subst (λ s. StandsAt (seen s.kept (state g.S.Store s.conn)) U) (sym c.self.view_is) at in
    let here : IsTrue (state g.S.Store inside.rows).is_open = subst (λ s. IsTrue (state g.S.Store s.conn).is_open) (sym c.self.view_is) was in
    let is = store_at inside.held.held (state g.S.Store inside.rows) U within (omega (arith, clean, c.write.ensures.crash.clean)) here in
    elim (c.write.ensures.crash.crash clean trees may) [
      | inl before ↦ inl (c.rests.ensures (rows_of U) here is trees before)
      | inr after ↦ inr (after U at.state.valid (c.requires.valid U at.state) is)
    ]

pub take-requires-clause-valid : goal.take-requires-clause-valid
take-requires-clause-valid g c =
    let (U, of, rows) = c.self.invariant in
    let E = effects_view c.args.effects in
    let valid = c.requires.valid U (subst (λ s. IsStateOf s.kept U) c.self.view_is of) in
    subst IsHeld (held_after c.held_follows.ensures.applied c.room.new.self.held U E (of.held ∙ sym c.in_ok-room.ensures.kept)) (c.held_follows.ensures.valid (applied U E) valid)

pub invariant_of-self-2 : goal.invariant_of-self-2
invariant_of-self-2 g c =
    let (U, of, rows) = c.self.invariant in
    let E = effects_view c.args.effects in
    let valid = c.requires.valid U (subst (λ s. IsStateOf s.kept U) c.self.view_is of) in (
      applied U E,
      record {
        valid = valid;
        held = held_after c.held_follows.ensures.applied c.room.new.self.held U E (of.held ∙ sym c.in_ok-room.ensures.kept) ∙ sym c.take.ensures.held;
      },
      (λ clean there.
          c.in_ok-write.ensures.wrote clean U of.valid valid (rows (omega (arith, clean, c.write.ensures.crash.clean)) (c.write.ensures.was_open clean there))),
    )

pub returns-clause-done : goal.returns-clause-done
returns-clause-done g c U at =
    let inside = c.self.inside in
    let E = effects_view c.args.effects in
    let within = subst (λ s. StandsAt (seen s.kept (state g.S.Store s.conn)) U) (sym c.self.view_is) at in
    let valid = c.requires.valid U at.state in
    stands_at c.take.new.self.held (state g.S.Store c.write.new.self) (applied U E)
    (record {
      valid = valid;
      held = held_after c.held_follows.ensures.applied c.room.new.self.held U E (within.state.held ∙ sym c.in_ok-room.ensures.kept) ∙ sym c.take.ensures.held;
    })
    (λ clean there. c.in_ok-write.ensures.wrote clean U at.state.valid valid
    (store_at inside.held.held (state g.S.Store inside.rows) U within (omega (arith, clean, c.write.ensures.crash.clean)) (c.write.ensures.was_open clean there)))

pub returns-clause-crash : goal.returns-clause-crash
returns-clause-crash g c clean was U at trees may =
    let inside = c.self.inside in
    let within = subst (λ s. StandsAt (seen s.kept (state g.S.Store s.conn)) U) (sym c.self.view_is) at in
    let here : IsTrue (state g.S.Store inside.rows).is_open = subst (λ s. IsTrue (state g.S.Store s.conn).is_open) (sym c.self.view_is) was in
    let is = store_at inside.held.held (state g.S.Store inside.rows) U within (omega (arith, clean, c.write.ensures.crash.clean)) here in
    elim (c.write.ensures.crash.crash clean trees may) [
      | inl before ↦ inl (c.rests.ensures (rows_of U) here is trees before)
      | inr after ↦ inr (after U at.state.valid (c.requires.valid U at.state) is)
    ]
