use Rattle.std.proofs.Common.{◌≡◌, ℕ, Ok, Err, ap, length, subst, sym, ◌∙◌}
use Rattle.sqlite.specs.Held.{state}
use Rattle.machine.specs.Answers.{Answers, CountsGone}
use Rattle.trust_rules.specs.Offers as commands
use Rattle.trust_rules.specs.Effects.{applied}
use Rattle.trust_rules.specs.Held.{OfEachState}
use Rattle.machine.specs.Knowing.{CarriesVerdicts}
use Rattle.trust_rules.specs.Runs.{Prune, Pruned, Steps}
use Rattle.machine.specs.PartViews.{effects_view}
use Rattle.machine.specs.DeclaredOutcome.{Outcome}
use Rattle.machine.specs.Outcomes.{Changed}
use Rattle.machine.specs.Outcomes as outcomes
use Rattle.store.specs.declared.command.Reply.TheVariants as answers
use Rattle.store.proofs.Applying.{is_valid, made_at, refusal_sound, still_at, unmade_at, prunes, prunes_same, prune_refused}
use Rattle.store.proofs.Standings.{each}
use Rattle.store.proofs.store.Store.prune.Goals as goal

both : {a b m n : ℕ} → a ≡ b → m ≡ n → ◌≡◌ {A = ℕ × ℕ} (a, m) (b, n)
both p q = λ i. (p i, q i)

pub returns-in-Ok-Same : goal.returns-in-Ok-Same
returns-in-Ok-Same g c =
    let kept = c.args.self.now.kept in
    let told : OfEachState c.held.result.now.held (λ S. Answers S (commands.prune S) (Ok outcomes.Same)) = rw (c.in-Ok-Same.field-0-is) at c.in-Ok-Same.ensures.answers in
    still_at kept (state g.S.Store c.args.self.now.conn) Prune c.args.now tt _ c.rests.ensures.left
    (λ S of. prunes_same S c.args.now (each c.held.result.now.held kept (λ S. Answers S (commands.prune S) (Ok outcomes.Same)) c.held.ensures told S of)) (λ same. cc)

pub returns-in-Err : goal.returns-in-Err
returns-in-Err g c =
    let kept = c.args.self.now.kept in
    still_at kept (state g.S.Store c.args.self.now.conn) Prune c.args.now tt c.refused.result c.rests.ensures.left
    (λ S of. prune_refused S c.args.now c.in-Err.refusal c.refused.result
    (each c.held.result.now.held kept (λ S. Answers S (commands.prune S) (Err c.in-Err.refusal)) c.held.ensures c.in-Err.ensures.answers S of) c.refused.ensures)
    (refusal_sound c.in-Err.refusal c.refused.result c.refused.ensures)

pub keep-requires-clause-known : goal.keep-requires-clause-known
keep-requires-clause-known g c =
    subst (λ H. CarriesVerdicts H.trusted (Ok (Changed c.in-Ok-Changed.effects))) c.held.ensures
    (subst (λ (o : Outcome). CarriesVerdicts c.held.result.now.held.trusted (Ok o)) c.in-Ok-Changed.field-0-is c.in-Ok-Changed.ensures.known)

pub keep-requires-clause-valid : goal.keep-requires-clause-valid
keep-requires-clause-valid g c S of =
    let told : OfEachState c.held.result.now.held (λ S. Answers S (commands.prune S) (Ok (Changed c.in-Ok-Changed.effects))) = rw (c.in-Ok-Changed.field-0-is) at c.in-Ok-Changed.ensures.answers in
    is_valid (each c.held.result.now.held c.args.self.now.kept (λ S. Answers S (commands.prune S) (Ok (Changed c.in-Ok-Changed.effects))) c.held.ensures told S of)

pub returns-in-Ok : goal.returns-in-Ok
returns-in-Ok g c =
    let kept = c.args.self.now.kept in
    let told : OfEachState c.held.result.now.held (λ S. Answers S (commands.prune S) (Ok (Changed c.in-Ok-Changed.effects))) = rw (c.in-Ok-Changed.field-0-is) at c.in-Ok-Changed.ensures.answers in
    let counted : OfEachState c.held.result.now.held (λ S. CountsGone S (Ok (Changed c.in-Ok-Changed.effects))) = rw (c.in-Ok-Changed.field-0-is) at c.in-Ok-Changed.ensures.counts in
    made_at kept c.keep.new.self.kept (state g.S.Store c.args.self.now.conn) (state g.S.Store c.keep.new.self.conn) Prune c.args.now tt
    c.in-Ok-Changed.effects (answers.Pruned c.len-blobs.result c.len-rows.result) c.in-Ok.ensures.done
    (λ S of. subst (λ (n : ℕ × ℕ). Steps S Prune c.args.now (applied S (effects_view c.in-Ok-Changed.effects), Pruned n.0 n.1)) (both (sym (c.len-blobs.ensures ∙ c.in-Ok-Changed.effects.gone.blobs.ok.0)) (sym (c.len-rows.ensures ∙ c.in-Ok-Changed.effects.gone.rows.ok.0)))
    (prunes S c.args.now c.in-Ok-Changed.effects (each c.held.result.now.held kept (λ S. Answers S (commands.prune S) (Ok (Changed c.in-Ok-Changed.effects))) c.held.ensures told S of)
    (each c.held.result.now.held kept (λ S. CountsGone S (Ok (Changed c.in-Ok-Changed.effects))) c.held.ensures counted S of)))
    c.in-Ok.ensures.clean c.in-Ok.ensures.live c.in-Ok.ensures.crash c.keep.ensures.outlives

pub returns-in-Err-keep : goal.returns-in-Err-keep
returns-in-Err-keep g c =
    let kept = c.args.self.now.kept in
    let told : OfEachState c.held.result.now.held (λ S. Answers S (commands.prune S) (Ok (Changed c.in-Ok-Changed.effects))) = rw (c.in-Ok-Changed.field-0-is) at c.in-Ok-Changed.ensures.answers in
    let counted : OfEachState c.held.result.now.held (λ S. CountsGone S (Ok (Changed c.in-Ok-Changed.effects))) = rw (c.in-Ok-Changed.field-0-is) at c.in-Ok-Changed.ensures.counts in
    unmade_at kept c.keep.new.self.kept (state g.S.Store c.args.self.now.conn) (state g.S.Store c.keep.new.self.conn) Prune c.args.now
    c.in-Ok-Changed.effects (Pruned (length c.in-Ok-Changed.effects.gone.blobs.items) (length c.in-Ok-Changed.effects.gone.rows.items)) c.in-Err-keep.fault c.in-Err-keep.ensures.kept
    (λ S of. prunes S c.args.now c.in-Ok-Changed.effects (each c.held.result.now.held kept (λ S. Answers S (commands.prune S) (Ok (Changed c.in-Ok-Changed.effects))) c.held.ensures told S of)
    (each c.held.result.now.held kept (λ S. CountsGone S (Ok (Changed c.in-Ok-Changed.effects))) c.held.ensures counted S of))
    (λ same. c.in-Err-keep.ensures.sound (ap Err same)) c.in-Err-keep.ensures.clean c.in-Err-keep.ensures.crash c.keep.ensures.outlives
