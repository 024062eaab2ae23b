use Rattle.std.proofs.Common.{Ok, Err, ap, subst}
use Rattle.sqlite.specs.Held.{state}
use Rattle.machine.specs.Answers.{AnswersBatch}
use Rattle.trust_rules.specs.Offers as commands
use Rattle.machine.specs.Knowing.{BatchCarriesVerdicts}
use Rattle.trust_rules.specs.Runs.{Batch, BatchDone}
use Rattle.machine.specs.StateViews.{documents_view}
use Rattle.store.specs.declared.command.Reply.TheVariants as answers
use Rattle.store.proofs.Applying.{batch_refusal_sound, batch_refused, batch_valid, batches_all, made_at, still_at, unmade_at}
use Rattle.store.proofs.Standings.{each}
use Rattle.store.proofs.store.Store.take_batch.Goals as goal

pub returns-in-Err : goal.returns-in-Err
returns-in-Err g c =
    let kept = c.args.self.now.kept in
    let os = documents_view c.args.documents.now in
    still_at kept (state g.S.Store c.args.self.now.conn) (Batch os) c.args.now tt c.refused_batch.result c.rests.ensures.left
    (λ S of. batch_refused S os c.args.now c.in-Err.refusal c.refused_batch.result
    (each c.held.result.now.held kept (λ S. AnswersBatch S (commands.batch S.trusted os c.args.now) (Err c.in-Err.refusal)) c.held.ensures c.in-Err.ensures.answers S of) c.refused_batch.ensures)
    (batch_refusal_sound c.in-Err.refusal c.refused_batch.result c.refused_batch.ensures)

pub keep-requires-clause-known : goal.keep-requires-clause-known
keep-requires-clause-known g c = subst (λ H. BatchCarriesVerdicts H.trusted (Ok c.in-Ok.batched)) c.held.ensures c.in-Ok.ensures.known

pub keep-requires-clause-valid : goal.keep-requires-clause-valid
keep-requires-clause-valid g c S of =
    let os = documents_view c.args.documents.now in
    batch_valid (each c.held.result.now.held c.args.self.now.kept (λ S. AnswersBatch S (commands.batch S.trusted os c.args.now) (Ok c.in-Ok.batched)) c.held.ensures c.in-Ok.ensures.answers S of)

pub returns-in-Ok-keep : goal.returns-in-Ok-keep
returns-in-Ok-keep g c =
    let kept = c.args.self.now.kept in
    let os = documents_view c.args.documents.now in
    made_at kept c.keep.new.self.kept (state g.S.Store c.args.self.now.conn) (state g.S.Store c.keep.new.self.conn) (Batch os) c.args.now tt
    c.in-Ok.batched.effects (answers.Batch c.in-Ok.batched.accepted c.in-Ok.batched.same) c.in-Ok-keep.ensures.done
    (λ S of. batches_all S os c.args.now c.in-Ok.batched
    (each c.held.result.now.held kept (λ S. AnswersBatch S (commands.batch S.trusted os c.args.now) (Ok c.in-Ok.batched)) c.held.ensures c.in-Ok.ensures.answers S of))
    c.in-Ok-keep.ensures.clean c.in-Ok-keep.ensures.live c.in-Ok-keep.ensures.crash c.keep.ensures.outlives

pub returns-in-Err-keep : goal.returns-in-Err-keep
returns-in-Err-keep g c =
    let kept = c.args.self.now.kept in
    let os = documents_view c.args.documents.now in
    unmade_at kept c.keep.new.self.kept (state g.S.Store c.args.self.now.conn) (state g.S.Store c.keep.new.self.conn) (Batch os) c.args.now
    c.in-Ok.batched.effects (BatchDone c.in-Ok.batched.accepted c.in-Ok.batched.same) c.in-Err-keep.fault c.in-Err-keep.ensures.kept
    (λ S of. batches_all S os c.args.now c.in-Ok.batched
    (each c.held.result.now.held kept (λ S. AnswersBatch S (commands.batch S.trusted os c.args.now) (Ok c.in-Ok.batched)) c.held.ensures c.in-Ok.ensures.answers S of))
    (λ same. c.in-Err-keep.ensures.sound (ap Err same)) c.in-Err-keep.ensures.clean c.in-Err-keep.ensures.crash c.keep.ensures.outlives
