use Rattle.std.proofs.Common.{IsTrue, refl, subst, sym}
use Rattle.sqlite.specs.Held.{state}
use Rattle.sqlite.specs.State.{HasCleanDisk}
use Rattle.trust_rules.specs.State.{State}
use Rattle.store.specs.Standing.{StandsAt, seen}
use Rattle.store.specs.StateRows.{rows_of}
use Rattle.store.proofs.Reopening.{recovers, store_whole}
use Rattle.store.proofs.Standings.{store_at}
use Rattle.store.proofs.closing.at_rest.Goals as goal

pub returns : goal.returns
returns g c clean there U at =
    let s = state g.S.Store c.into_connection-conn.result in
    let here = subst (λ k. StandsAt (seen c.args.store.kept (state g.S.Store k)) U) (sym c.into_connection-conn.ensures) at in
    recovers c.trees_tell_state.ensures.once c.trees_tell_state.ensures.sound s.committed.trees U at.state.valid
    (store_whole s (rows_of U) there c.leaves_committed.ensures.live (store_at c.args.store.kept s U here clean there) s.committed.trees refl)
