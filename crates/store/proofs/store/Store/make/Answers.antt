use Rattle.std.proofs.Common.{refl, sym, subst}
use Rattle.sqlite.specs.Held.{state}
use Rattle.store.specs.steps.Doing.{DoesAt}
use Rattle.store.specs.Ticks.{Ticks}
use Rattle.store.specs.Views.{command_view}
use Rattle.store.proofs.store.Store.make.Goals as goal

pub returns-in-Init-clause-does : goal.returns-in-Init-clause-does
returns-in-Init-clause-does g c =
    subst (λ command. DoesAt c.args.self.now.kept c.begin.new.self.kept (state g.S.Store c.args.self.now.conn) (state g.S.Store c.begin.new.self.conn) (command_view command) c.args.now c.begin.result)
    (sym c.in-Init.is) c.begin.ensures

pub returns-in-Batch-clause-does : goal.returns-in-Batch-clause-does
returns-in-Batch-clause-does g c =
    subst (λ command. DoesAt c.args.self.now.kept c.take_batch.new.self.kept (state g.S.Store c.args.self.now.conn) (state g.S.Store c.take_batch.new.self.conn) (command_view command) c.args.now c.take_batch.result)
    (sym c.in-Batch.is) c.take_batch.ensures

pub returns-in-Offer-clause-does : goal.returns-in-Offer-clause-does
returns-in-Offer-clause-does g c =
    subst (λ command. DoesAt c.args.self.now.kept c.take_offer.new.self.kept (state g.S.Store c.args.self.now.conn) (state g.S.Store c.take_offer.new.self.conn) (command_view command) c.args.now c.take_offer.result)
    (sym c.in-Offer.is) c.take_offer.ensures

pub returns-in-PutBlob-clause-does : goal.returns-in-PutBlob-clause-does
returns-in-PutBlob-clause-does g c =
    subst (λ command. DoesAt c.args.self.now.kept c.put.new.self.kept (state g.S.Store c.args.self.now.conn) (state g.S.Store c.put.new.self.conn) (command_view command) c.args.now c.put.result)
    (sym c.in-PutBlob.is) c.put.ensures

pub returns-in-Prune-clause-does : goal.returns-in-Prune-clause-does
returns-in-Prune-clause-does g c =
    subst (λ command. DoesAt c.args.self.now.kept c.prune.new.self.kept (state g.S.Store c.args.self.now.conn) (state g.S.Store c.prune.new.self.conn) (command_view command) c.args.now c.prune.result)
    (sym c.in-Prune.is) c.prune.ensures

pub returns-in-Target-clause-does : goal.returns-in-Target-clause-does
returns-in-Target-clause-does g c =
    subst (λ command. DoesAt c.args.self.now.kept c.target.new.self.kept (state g.S.Store c.args.self.now.conn) (state g.S.Store c.target.new.self.conn) (command_view command) c.args.now c.target.result)
    (sym c.in-Target.is) c.target.ensures.does

pub returns-in-Target-clause-ticks : goal.returns-in-Target-clause-ticks
returns-in-Target-clause-ticks g c =
    subst (λ command. Ticks c.args.self.now.kept.trusted (command_view command) c.args.now c.args.checks.now c.target.new.checks) (sym c.in-Target.is) c.target.ensures.ticks

pub returns-in-Init-clause-ticks : goal.returns-in-Init-clause-ticks
returns-in-Init-clause-ticks g c = subst (λ command. Ticks c.args.self.now.kept.trusted (command_view command) c.args.now c.args.checks.now c.args.checks.now) (sym c.in-Init.is) refl

pub returns-in-Batch-clause-ticks : goal.returns-in-Batch-clause-ticks
returns-in-Batch-clause-ticks g c = subst (λ command. Ticks c.args.self.now.kept.trusted (command_view command) c.args.now c.args.checks.now c.args.checks.now) (sym c.in-Batch.is) refl

pub returns-in-Offer-clause-ticks : goal.returns-in-Offer-clause-ticks
returns-in-Offer-clause-ticks g c = subst (λ command. Ticks c.args.self.now.kept.trusted (command_view command) c.args.now c.args.checks.now c.args.checks.now) (sym c.in-Offer.is) refl

pub returns-in-PutBlob-clause-ticks : goal.returns-in-PutBlob-clause-ticks
returns-in-PutBlob-clause-ticks g c = subst (λ command. Ticks c.args.self.now.kept.trusted (command_view command) c.args.now c.args.checks.now c.args.checks.now) (sym c.in-PutBlob.is) refl

pub returns-in-Prune-clause-ticks : goal.returns-in-Prune-clause-ticks
returns-in-Prune-clause-ticks g c = subst (λ command. Ticks c.args.self.now.kept.trusted (command_view command) c.args.now c.args.checks.now c.args.checks.now) (sym c.in-Prune.is) refl

pub returns-in-Metadata-clause-ticks : goal.returns-in-Metadata-clause-ticks
returns-in-Metadata-clause-ticks g c = subst (λ command. Ticks c.args.self.now.kept.trusted (command_view command) c.args.now c.args.checks.now c.args.checks.now) (sym c.in-Metadata.is) refl
