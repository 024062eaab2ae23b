use Rattle.std.proofs.Common.{refl, subst}
use Rattle.std.specs.Prelude.{IsTrue}
use Rattle.sqlite.specs.Held.{state}
use Rattle.trust_rules.specs.Held.{Held}
use Rattle.store.specs.Ticks.{Ticks}
use Rattle.store.specs.Views.{command_view}
use Rattle.store.proofs.Applying.{failed, relayed, was_there}
use Rattle.store.proofs.Standings.{applies, stands_on}
use Rattle.store.proofs.Ticking.{no_ticks}
use Rattle.store.proofs.store.Store.apply_counted.Goals as goal

pub returns-in-Err-clause-applies : goal.returns-in-Err-clause-applies
returns-in-Err-clause-applies g c =
    let kept = c.args.self.now.kept in
    let left = c.touch.new.self.kept in
    let old = state g.S.Store c.args.self.now.conn in
    let new = state g.S.Store c.touch.new.self.conn in
    let command = command_view c.args.command in
    applies kept left old new command c.args.now _
    (λ S at. (
      S,
      stands_on kept left old new c.touch.ensures.same c.touch.ensures.reads S at,
      failed S S old new command c.args.now c.in-Err.fault refl (λ clean there. c.rests.ensures.left clean there S at) c.touch.ensures.reads.survives c.in-Err.ensures.sound,
    ))
    (λ clean. tt) c.rests.ensures.somewhere c.rests-in-Err.ensures.left

pub returns-clause-applies : goal.returns-clause-applies
returns-clause-applies g c =
    let kept = c.args.self.now.kept in
    let mid = c.touch.new.self.kept in
    let left = c.make-result.new.self.kept in
    let old = state g.S.Store c.args.self.now.conn in
    let middle = state g.S.Store c.touch.new.self.conn in
    let new = state g.S.Store c.make-result.new.self.conn in
    let command = command_view c.args.command in
    let on = stands_on kept mid old middle c.touch.ensures.same c.touch.ensures.reads in
    let (S, at) = c.rests.ensures.somewhere in
    let (T, to, done) = c.make-result.ensures.does S (on S at) in
    applies kept left old new command c.args.now c.make-result.result
    (λ S at. let (T, to, done) = c.make-result.ensures.does S (on S at) in
    (T, to, relayed S T old middle new command c.args.now c.make-result.result c.touch.ensures.reads.survives c.in-Ok.ensures.open done))
    (was_there S T middle new command c.args.now c.make-result.result (IsTrue old.is_open) _ done c.in-Ok.ensures.open)
    c.rests.ensures.somewhere c.rests-2.ensures.left

pub returns-in-Err-clause-ticks : goal.returns-in-Err-clause-ticks
returns-in-Err-clause-ticks g c = no_ticks c.args.self.now.kept.trusted (command_view c.args.command) c.args.now c.args.checks.now c.is_known.ensures

pub returns-clause-ticks : goal.returns-clause-ticks
returns-clause-ticks g c =
    subst (λ (kept : Held). Ticks kept.trusted (command_view c.args.command) c.args.now c.args.checks.now c.make-result.new.checks) c.touch.ensures.same c.make-result.ensures.ticks
