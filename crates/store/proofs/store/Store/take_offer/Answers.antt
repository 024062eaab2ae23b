use Rattle.std.proofs.Common.{Ok, Err, ap, subst, false}
use Rattle.sqlite.specs.Held.{state}
use Rattle.machine.specs.Answers.{Answers}
use Rattle.trust_rules.specs.Offers as commands
use Rattle.trust_rules.specs.Held.{OfEachState}
use Rattle.machine.specs.Knowing.{CarriesVerdicts}
use Rattle.trust_rules.specs.Effects.{on_state}
use Rattle.machine.specs.StateViews.{offer_view}
use Rattle.trust_rules.specs.Runs.{OfferOne, Offered}
use Rattle.machine.specs.DeclaredOutcome.{Outcome}
use Rattle.machine.specs.Outcomes.{Changed}
use Rattle.machine.specs.Outcomes as outcomes
use Rattle.store.specs.declared.command.Reply.TheVariants as answers
use Rattle.store.proofs.Applying.{is_valid, made_at, refusal_sound, still_at, unmade_at, offers_one, offers_same, offer_refused}
use Rattle.store.proofs.Standings.{each}
use Rattle.store.proofs.store.Store.take_offer.Goals as goal

pub returns-in-Ok-Same : goal.returns-in-Ok-Same
returns-in-Ok-Same g c =
    let kept = c.args.self.now.kept in
    let told : OfEachState c.held.result.now.held (λ S. Answers S (on_state S (commands.offer S.trusted (offer_view c.args.offered.now) c.args.bytes.now c.args.now)) (Ok outcomes.Same)) = rw (c.in-Ok-Same.field-0-is) at c.in-Ok-Same.ensures.answers in
    still_at kept (state g.S.Store c.args.self.now.conn) (OfferOne (offer_view c.args.offered.now) c.args.bytes.now) c.args.now tt _ c.rests.ensures.left
    (λ S of. offers_same S (offer_view c.args.offered.now) c.args.bytes.now c.args.now (each c.held.result.now.held kept (λ S. Answers S (on_state S (commands.offer S.trusted (offer_view c.args.offered.now) c.args.bytes.now c.args.now)) (Ok outcomes.Same)) c.held.ensures told S of)) (λ same. cc)

pub returns-in-Err : goal.returns-in-Err
returns-in-Err g c =
    let kept = c.args.self.now.kept in
    still_at kept (state g.S.Store c.args.self.now.conn) (OfferOne (offer_view c.args.offered.now) c.args.bytes.now) c.args.now tt c.refused.result c.rests.ensures.left
    (λ S of. offer_refused S (offer_view c.args.offered.now) c.args.bytes.now c.args.now c.in-Err.refusal c.refused.result
    (each c.held.result.now.held kept (λ S. Answers S (on_state S (commands.offer S.trusted (offer_view c.args.offered.now) c.args.bytes.now c.args.now)) (Err c.in-Err.refusal)) c.held.ensures c.in-Err.ensures.answers S of) c.refused.ensures)
    (refusal_sound c.in-Err.refusal c.refused.result c.refused.ensures)

pub keep-requires-clause-known : goal.keep-requires-clause-known
keep-requires-clause-known g c =
    subst (λ H. CarriesVerdicts H.trusted (Ok (Changed c.in-Ok-Changed.effects))) c.held.ensures
    (subst (λ (o : Outcome). CarriesVerdicts c.held.result.now.held.trusted (Ok o)) c.in-Ok-Changed.field-0-is c.in-Ok-Changed.ensures.known)

pub keep-requires-clause-valid : goal.keep-requires-clause-valid
keep-requires-clause-valid g c S of =
    let told : OfEachState c.held.result.now.held (λ S. Answers S (on_state S (commands.offer S.trusted (offer_view c.args.offered.now) c.args.bytes.now c.args.now)) (Ok (Changed c.in-Ok-Changed.effects))) = rw (c.in-Ok-Changed.field-0-is) at c.in-Ok-Changed.ensures.answers in
    is_valid (each c.held.result.now.held c.args.self.now.kept (λ S. Answers S (on_state S (commands.offer S.trusted (offer_view c.args.offered.now) c.args.bytes.now c.args.now)) (Ok (Changed c.in-Ok-Changed.effects))) c.held.ensures told S of)

pub returns-in-Ok : goal.returns-in-Ok
returns-in-Ok g c =
    let kept = c.args.self.now.kept in
    let told : OfEachState c.held.result.now.held (λ S. Answers S (on_state S (commands.offer S.trusted (offer_view c.args.offered.now) c.args.bytes.now c.args.now)) (Ok (Changed c.in-Ok-Changed.effects))) = rw (c.in-Ok-Changed.field-0-is) at c.in-Ok-Changed.ensures.answers in
    made_at kept c.keep.new.self.kept (state g.S.Store c.args.self.now.conn) (state g.S.Store c.keep.new.self.conn) (OfferOne (offer_view c.args.offered.now) c.args.bytes.now) c.args.now tt
    c.in-Ok-Changed.effects (answers.Offered false) c.in-Ok.ensures.done
    (λ S of. offers_one S (offer_view c.args.offered.now) c.args.bytes.now c.args.now c.in-Ok-Changed.effects (each c.held.result.now.held kept (λ S. Answers S (on_state S (commands.offer S.trusted (offer_view c.args.offered.now) c.args.bytes.now c.args.now)) (Ok (Changed c.in-Ok-Changed.effects))) c.held.ensures told S of))
    c.in-Ok.ensures.clean c.in-Ok.ensures.live c.in-Ok.ensures.crash c.keep.ensures.outlives

pub returns-in-Err-keep : goal.returns-in-Err-keep
returns-in-Err-keep g c =
    let kept = c.args.self.now.kept in
    let told : OfEachState c.held.result.now.held (λ S. Answers S (on_state S (commands.offer S.trusted (offer_view c.args.offered.now) c.args.bytes.now c.args.now)) (Ok (Changed c.in-Ok-Changed.effects))) = rw (c.in-Ok-Changed.field-0-is) at c.in-Ok-Changed.ensures.answers in
    unmade_at kept c.keep.new.self.kept (state g.S.Store c.args.self.now.conn) (state g.S.Store c.keep.new.self.conn) (OfferOne (offer_view c.args.offered.now) c.args.bytes.now) c.args.now
    c.in-Ok-Changed.effects (Offered false) c.in-Err-keep.fault c.in-Err-keep.ensures.kept
    (λ S of. offers_one S (offer_view c.args.offered.now) c.args.bytes.now c.args.now c.in-Ok-Changed.effects (each c.held.result.now.held kept (λ S. Answers S (on_state S (commands.offer S.trusted (offer_view c.args.offered.now) c.args.bytes.now c.args.now)) (Ok (Changed c.in-Ok-Changed.effects))) c.held.ensures told S of))
    (λ same. c.in-Err-keep.ensures.sound (ap Err same)) c.in-Err-keep.ensures.clean c.in-Err-keep.ensures.crash c.keep.ensures.outlives
