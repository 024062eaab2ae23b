-- What a call does, from what the machine answers.
use Rattle.std.proofs.Common.{◌≡◌, ◌⊎◌, inl, inr, ℕ, true, false, List, Option, Some, None, Result, Ok, Err, refl, sym, ap, subst, ◌∙◌, arith}
use Rattle.std.specs.Prelude.{IfOk, IsTrue, OnErr, OnOk, length}
use Rattle.sqlite.specs.State as database
use Rattle.sqlite.specs.State.{HasCleanDisk, Survives}
use Rattle.sqlite_trees.specs.Tree.{Trees}
use Rattle.metadata.specs.File.{Bytes}
use Rattle.denials.specs.Orders as orders
use Rattle.denials.specs.Orders.{Order, Same}
use Rattle.trust_rules.specs.State.{State, IsState, metadata_of}
use Rattle.trust_rules.specs.Offers as commands
use Rattle.trust_rules.specs.Effects.{applied, brought, on_state}
use Rattle.trust_rules.specs.Runs.{Command, Reply, Steps, leads, Init, Batch, OfferOne, PutBlob, Prune, Metadata, Target, Begun, BatchDone, Offered, Stored, Pruned, FileBytes, Absent, Refused}
use Rattle.machine.specs.Answers.{Answers, CountsGone, changes, unchanged, refused, AnswersBatch, done, denied}
use Rattle.denials.specs.Views.{denial_view}
use Rattle.machine.specs.PartViews.{effects_view}
use Rattle.machine.specs.DeclaredEffects.{Effects}
use Rattle.machine.specs.Outcomes.{Changed}
use Rattle.machine.specs.Outcomes as outcomes
use Rattle.machine.specs.DeclaredBatched.{Batched}
use Rattle.machine.specs.DeclaredRefusal.{Refusal}
use Rattle.machine.specs.Refusals as refusals
use Rattle.machine.specs.DeclaredBatchRefusal.{BatchRefusal}
use Rattle.machine.specs.BatchRefusals as batches
use Rattle.sql_tables.specs.Outliving.{Outlives}
use Rattle.sql_tables.proofs.Outlived.{outlives_by, outlives_then, untouched}
use Rattle.table_rows.specs.Tables.{HoldsWhole}
use Rattle.store.specs.Applies.{Replies}
use Rattle.store.specs.Standing.{IsStateOf, StandsAt, seen}
use Rattle.store.specs.steps.Doing.{Does, DoesAt}
use Rattle.store.specs.steps.Replies.{IsBatchRefusal, IsCopied, copied, wanting, IsRefusal}
use Rattle.trust_rules.specs.Held.{Held}
use Rattle.store.specs.StateRows.{rows_of}
use Rattle.store.specs.Views.{reply_view}
use Rattle.table_rows.specs.declared.faults.StoreFault.{StoreFault}
use Rattle.table_rows.specs.declared.faults.StoreFault.TheVariants.{Damaged, OutOfMemory}
use Rattle.store.specs.declared.command.Reply.{Reply as Answer}
use Rattle.store.specs.declared.command.Reply.TheVariants as answers

pub on_err : {A E : Type 0} (P : Type 0) (r : Result A E) → P → OnErr r P
on_err P (Ok a) p = tt
on_err P (Err e) p = p

on_ok : {A E : Type 0} (P : Type 0) (r : Result A E) → P → OnOk r P
on_ok P (Ok a) p = p
on_ok P (Err e) p = tt

-- ---- replies

-- a command that asks for no target
abbrev pub IsOther : Command → Type 0
IsOther (Target path asked) = ⊥
IsOther c = Unit {0}

-- its step is a reply whatever the disk answered
step_replies : (trusted : Type 0) (S : State) (c : Command) (now : ℕ) (T : State) (reply : Reply) → IsOther c → Steps S c now (T, reply) → Replies trusted S c now T reply
step_replies trusted S (Init b) now T reply other h = h
step_replies trusted S (Batch os) now T reply other h = h
step_replies trusted S (OfferOne o b) now T reply other h = h
step_replies trusted S (PutBlob digest b) now T reply other h = h
step_replies trusted S Prune now T reply other h = h
step_replies trusted S (Metadata name) now T reply other h = h
step_replies trusted S (Target path asked) now T reply other h = absurd other

-- and a reply is a step where it is to be trusted
pub replies_step : (trusted : Type 0) (S : State) (c : Command) (now : ℕ) (T : State) (reply : Reply) → trusted → Replies trusted S c now T reply → Steps S c now (T, reply)
replies_step trusted S (Init b) now T reply sure h = h
replies_step trusted S (Batch os) now T reply sure h = h
replies_step trusted S (OfferOne o b) now T reply sure h = h
replies_step trusted S (PutBlob digest b) now T reply sure h = h
replies_step trusted S Prune now T reply sure h = h
replies_step trusted S (Metadata name) now T reply sure h = h
replies_step trusted S (Target path asked) now T (FileBytes b) sure h = h.1 sure
replies_step trusted S (Target path asked) now T Begun sure h = h
replies_step trusted S (Target path asked) now T (BatchDone a s) sure h = h
replies_step trusted S (Target path asked) now T (Offered s) sure h = h
replies_step trusted S (Target path asked) now T (Stored n) sure h = h
replies_step trusted S (Target path asked) now T (Pruned b n) sure h = h
replies_step trusted S (Target path asked) now T Absent sure h = h
replies_step trusted S (Target path asked) now T (Refused d i) sure h = h.1 (λ by has. sure)

replies_if : (trusted : Type 0) (S T : State) (c : Command) (now : ℕ) (r : Result Answer StoreFault) → IsOther c → IfOk r (λ reply. Steps S c now (T, reply_view reply))
    → IfOk r (λ reply. Replies trusted S c now T (reply_view reply))
replies_if trusted S T c now (Ok reply) other h = step_replies trusted S c now T (reply_view reply) other h
replies_if trusted S T c now (Err fault) other h = tt

abbrev Left : State → database.State → Type 0
Left S old = HasCleanDisk old → IsTrue old.is_open → (trees : Trees) → old.may_leave trees → HoldsWhole trees (rows_of S)

-- what rests of each state at which a store stands
abbrev pub Resting : Held → database.State → Type 0
Resting kept old =
    HasCleanDisk old → IsTrue old.is_open → (U : State) → StandsAt (seen kept old) U → (trees : Trees) → old.may_leave trees → HoldsWhole trees (rows_of U)

-- nothing was written
still : (S : State) (old : database.State) (c : Command) (now : ℕ) → IsOther c → (r : Result Answer StoreFault) → Left S old
    → IfOk r (λ reply. Steps S c now (S, reply_view reply)) → (r ≡ Err Damaged → ⊥) → Does S S old old c now r
still S old c now other r left step sound = record {
  step = replies_if _ S S c now r other step;
  kept = on_err (S ≡ S) r refl;
  sound = sound;
  clean = λ clean. clean;
  live = λ clean there. on_ok (IsTrue old.is_open) r there;
  outlives = untouched old;
  crash = λ clean there trees may. inl (left clean there trees may);
}

abbrev Crash : State → State → database.State → database.State → Type 0
Crash S U old new = HasCleanDisk new → IsTrue old.is_open → (trees : Trees) → new.may_leave trees → HoldsWhole trees (rows_of S) ⊎ HoldsWhole trees (rows_of U)

-- the step was made, and written
made : (S T : State) (old new : database.State) (c : Command) (now : ℕ) → IsOther c → (e : Effects) (reply : Answer) → T ≡ applied S (effects_view e)
    → Steps S c now (applied S (effects_view e), reply_view reply) → (HasCleanDisk new → HasCleanDisk old) → (HasCleanDisk new → IsTrue old.is_open → IsTrue new.is_open)
    → Crash S (applied S (effects_view e)) old new → Outlives old new → Does S T old new c now (Ok reply)
made S T old new c now other e reply is step tidy live crash outlives = record {
  step = step_replies _ S c now T (reply_view reply) other (subst (λ (U : State). Steps S c now (U, reply_view reply)) (sym is) step);
  kept = tt;
  sound = λ same. let k : ◌≡◌ {A = Result Answer StoreFault} (Ok reply) (Err Damaged) = same in cc;
  clean = tidy;
  live = live;
  outlives = outlives;
  crash = λ clean there trees may. elim (crash clean there trees may) [ inl b ↦ inl b | inr a ↦ inr (applied S (effects_view e), reply_view reply, step, a) ];
}

-- a fault came in between
unmade : (S T : State) (old new : database.State) (c : Command) (now : ℕ) (e : Effects) (reply : Reply) (fault : StoreFault) → T ≡ S
    → Steps S c now (applied S (effects_view e), reply) → (fault ≡ Damaged → ⊥) → (HasCleanDisk new → HasCleanDisk old)
    → Crash S (applied S (effects_view e)) old new → Outlives old new → Does S T old new c now (Err fault)
unmade S T old new c now e reply fault is step sound tidy crash outlives = record {
  step = tt;
  kept = is;
  sound = λ same. sound (let k : ◌≡◌ {A = Result Answer StoreFault} (Err fault) (Err Damaged) = same in cc);
  clean = tidy;
  live = λ clean there. tt;
  outlives = outlives;
  crash = λ clean there trees may. elim (crash clean there trees may) [ inl b ↦ inl b | inr a ↦ inr (applied S (effects_view e), reply, step, a) ];
}

-- ---- the same for each state at which a store stands

pub still_at : (kept : Held) (old : database.State) (c : Command) (now : ℕ) → IsOther c → (r : Result Answer StoreFault) → Resting kept old
    → ((S : State) → IsStateOf kept S → IfOk r (λ reply. Steps S c now (S, reply_view reply))) → (r ≡ Err Damaged → ⊥) → DoesAt kept kept old old c now r
still_at kept old c now other r rests step sound S at = (S, at, still S old c now other r (λ clean there. rests clean there S at) (step S at.state) sound)

abbrev CrashAt : Held → database.State → database.State → Effects → Type 0
CrashAt kept old new e =
    HasCleanDisk new → IsTrue old.is_open → (U : State) → StandsAt (seen kept old) U → (trees : Trees) → new.may_leave trees
    → HoldsWhole trees (rows_of U) ⊎ HoldsWhole trees (rows_of (applied U (effects_view e)))

pub made_at : (kept left : Held) (old new : database.State) (c : Command) (now : ℕ) → IsOther c → (e : Effects) (reply : Answer)
    → ((S : State) → StandsAt (seen kept old) S → StandsAt (seen left new) (applied S (effects_view e)))
    → ((S : State) → IsStateOf kept S → Steps S c now (applied S (effects_view e), reply_view reply))
    → (HasCleanDisk new → HasCleanDisk old) → (HasCleanDisk new → IsTrue old.is_open → IsTrue new.is_open) → CrashAt kept old new e → Outlives old new
    → DoesAt kept left old new c now (Ok reply)
made_at kept left old new c now other e reply leaves steps tidy live crash outlives S at = (
  applied S (effects_view e),
  leaves S at,
  made S (applied S (effects_view e)) old new c now other e reply refl (steps S at.state) tidy live (λ clean there. crash clean there S at) outlives,
)

pub unmade_at : (kept left : Held) (old new : database.State) (c : Command) (now : ℕ) (e : Effects) (reply : Reply) (fault : StoreFault)
    → ((S : State) → StandsAt (seen kept old) S → StandsAt (seen left new) S) → ((S : State) → IsStateOf kept S → Steps S c now (applied S (effects_view e), reply))
    → (fault ≡ Damaged → ⊥) → (HasCleanDisk new → HasCleanDisk old) → CrashAt kept old new e → Outlives old new → DoesAt kept left old new c now (Err fault)
unmade_at kept left old new c now e reply fault stays steps sound tidy crash outlives S at =
    (S, stays S at, unmade S S old new c now e reply fault refl (steps S at.state) sound tidy (λ clean there. crash clean there S at) outlives)

-- the database was asked in vain
pub failed : (S T : State) (old new : database.State) (c : Command) (now : ℕ) (fault : StoreFault) → T ≡ S → Left S old → Survives old new (λ _. ⊥)
    → (◌≡◌ {A = Result (Unit {0}) StoreFault} (Err fault) (Err Damaged) → ⊥) → Does S T old new c now (Err fault)
failed S T old new c now fault is left survives sound = record {
  step = tt;
  kept = is;
  sound = λ same. sound (let k : ◌≡◌ {A = Result Answer StoreFault} (Err fault) (Err Damaged) = same in cc);
  clean = λ clean. omega (arith, clean, survives.clean);
  live = λ clean there. tt;
  outlives = outlives_by old new (λ _. ⊥) survives;
  crash = λ clean there trees may. elim (survives.crash clean trees may) [ inl b ↦ inl (left (omega (arith, clean, survives.clean)) there trees b) | inr none ↦ absurd none ];
}

-- the database answered, and then the command was made
pub relayed : (S T : State) (old mid new : database.State) (c : Command) (now : ℕ) (r : Result Answer StoreFault) → Survives old mid (λ _. ⊥)
    → (HasCleanDisk mid → IsTrue old.is_open × IsTrue mid.is_open) → Does S T mid new c now r → Does S T old new c now r
relayed S T old mid new c now r survives there made = record {
  step = made.step;
  kept = made.kept;
  sound = made.sound;
  clean = λ clean. omega (arith, made.clean clean, survives.clean);
  live = λ clean was. made.live clean (there (made.clean clean)).1;
  outlives = outlives_then old mid new made.clean (outlives_by old mid (λ _. ⊥) survives) made.outlives;
  crash = λ clean was trees may. made.crash clean (there (made.clean clean)).1 trees may;
}

pub was_there : (S T : State) (mid new : database.State) (c : Command) (now : ℕ) (r : Result Answer StoreFault) (P Q : Type 0) → Does S T mid new c now r
    → (HasCleanDisk mid → P × Q) → HasCleanDisk new → OnOk r P
was_there S T mid new c now r P Q made there clean = on_ok P r (there (made.clean clean)).0

-- ---- from the answers of the machine to its steps

pub is_valid : {S : State} {m : Order State} {e : Effects} → Answers S m (Ok (Changed e)) → IsState (applied S (effects_view e))
is_valid (changes h valid) = valid

pub begins : (S : State) (b : Bytes) (now : ℕ) (e : Effects) → Answers S (commands.init S b) (Ok (Changed e)) → Steps S (Init b) now (applied S (effects_view e), Begun)
begins S b now e (changes h valid) = leads (Ok (applied S (effects_view e))) h

pub begins_same : (S : State) (b : Bytes) (now : ℕ) → Answers S (commands.init S b) (Ok outcomes.Same) → Steps S (Init b) now (S, Begun)
begins_same S b now (unchanged h) = leads (Err Same) h

pub begin_refused : (S : State) (b : Bytes) (now : ℕ) (refusal : Refusal) (r : Result Answer StoreFault) → Answers S (commands.init S b) (Err refusal) → IsRefusal refusal r
    → IfOk r (λ reply. Steps S (Init b) now (S, reply_view reply))
begin_refused S b now (refusals.Denied d) r (refused h) is =
    subst (λ (x : Result Answer StoreFault). IfOk x (λ reply. Steps S (Init b) now (S, reply_view reply))) (sym is) (leads (Err (orders.Denied (denial_view d))) h)
begin_refused S b now refusals.OutOfMemory r h is = subst (λ (x : Result Answer StoreFault). IfOk x (λ reply. Steps S (Init b) now (S, reply_view reply))) (sym is) tt

pub refusal_sound : (refusal : Refusal) (r : Result Answer StoreFault) → IsRefusal refusal r → r ≡ Err Damaged → ⊥
refusal_sound (refusals.Denied d) r is same = let k : ◌≡◌ {A = Result Answer StoreFault} (Ok (answers.Denied d None)) (Err Damaged) = sym is ∙ same in cc
refusal_sound refusals.OutOfMemory r is same = let k : ◌≡◌ {A = Result Answer StoreFault} (Err OutOfMemory) (Err Damaged) = sym is ∙ same in cc

abbrev Answered : State → Command → ℕ → Result Answer StoreFault → Type 0
Answered S c now r = IfOk r (λ reply. Steps S c now (S, reply_view reply))

answered_as : (S : State) (c : Command) (now : ℕ) (r q : Result Answer StoreFault) → r ≡ q → Answered S c now q → Answered S c now r
answered_as S c now r q is h = subst (Answered S c now) (sym is) h

-- ---- a prune

pub prunes : (S : State) (now : ℕ) (e : Effects) → Answers S (commands.prune S) (Ok (Changed e)) → CountsGone S (Ok (Changed e))
    → Steps S Prune now (applied S (effects_view e), Pruned (length e.gone.blobs.items) (length e.gone.rows.items))
prunes S now e (changes h valid) counts =
    subst (λ (reply : Reply). Steps S Prune now (applied S (effects_view e), reply)) (λ i. Pruned (counts.1 i) (counts.0 i)) (leads (Ok (applied S (effects_view e))) h)

-- it is never without a change
pub prunes_same : (S : State) (now : ℕ) → Answers S (commands.prune S) (Ok outcomes.Same) → Steps S Prune now (S, Pruned 0 0)
prunes_same S now (unchanged h) = leads (Err Same) h

pub prune_refused : (S : State) (now : ℕ) (refusal : Refusal) (r : Result Answer StoreFault) → Answers S (commands.prune S) (Err refusal) → IsRefusal refusal r → Answered S Prune now r
prune_refused S now (refusals.Denied d) r (refused h) is = answered_as S Prune now r _ is (leads (Err (orders.Denied (denial_view d))) h)
prune_refused S now refusals.OutOfMemory r h is = answered_as S Prune now r _ is tt

-- ---- a blob

pub puts : (S : State) (digest b : Bytes) (now : ℕ) (e : Effects) → Answers S (commands.put_blob S digest b) (Ok (Changed e))
    → Steps S (PutBlob digest b) now (applied S (effects_view e), Stored true)
puts S digest b now e (changes h valid) = leads (Ok (applied S (effects_view e))) h

pub puts_same : (S : State) (digest b : Bytes) (now : ℕ) → Answers S (commands.put_blob S digest b) (Ok outcomes.Same) → Steps S (PutBlob digest b) now (S, Stored false)
puts_same S digest b now (unchanged h) = leads (Err Same) h

pub put_refused : (S : State) (digest b : Bytes) (now : ℕ) (refusal : Refusal) (r : Result Answer StoreFault) → Answers S (commands.put_blob S digest b) (Err refusal)
    → IsRefusal refusal r → Answered S (PutBlob digest b) now r
put_refused S digest b now (refusals.Denied d) r (refused h) is = answered_as S (PutBlob digest b) now r _ is (leads (Err (orders.Denied (denial_view d))) h)
put_refused S digest b now refusals.OutOfMemory r h is = answered_as S (PutBlob digest b) now r _ is tt

-- ---- one document

abbrev offers : State → commands.Offer → Bytes → ℕ → Order State
offers S o b now = on_state S (commands.offer S.trusted o b now)

with_blobs_of : (S U : State) → U.blobs ≡ S.blobs → record S { trusted = U.trusted } ≡ U
with_blobs_of S U same = ap (λ (b : List (Bytes × Bytes)). record { trusted = U.trusted; blobs = b }) (sym same)

pub offers_one : (S : State) (o : commands.Offer) (b : Bytes) (now : ℕ) (e : Effects) → Answers S (offers S o b now) (Ok (Changed e))
    → Steps S (OfferOne o b) now (applied S (effects_view e), Offered false)
offers_one S o b now e (changes h valid) =
    let U = applied S (effects_view e) in
    subst (λ (T : State). Steps S (OfferOne o b) now (T, Offered false)) (with_blobs_of S U h.1) (leads (Ok U.trusted) h.0)

pub offers_same : (S : State) (o : commands.Offer) (b : Bytes) (now : ℕ) → Answers S (offers S o b now) (Ok outcomes.Same) → Steps S (OfferOne o b) now (S, Offered true)
offers_same S o b now (unchanged h) = leads (Err Same) h

pub offer_refused : (S : State) (o : commands.Offer) (b : Bytes) (now : ℕ) (refusal : Refusal) (r : Result Answer StoreFault) → Answers S (offers S o b now) (Err refusal)
    → IsRefusal refusal r → Answered S (OfferOne o b) now r
offer_refused S o b now (refusals.Denied d) r (refused h) is = answered_as S (OfferOne o b) now r _ is (leads (Err (orders.Denied (denial_view d))) h)
offer_refused S o b now refusals.OutOfMemory r h is = answered_as S (OfferOne o b) now r _ is tt

-- ---- a batch

pub batch_valid : {S : State} {m : commands.BatchOrder} {b : Batched} → AnswersBatch S m (Ok b) → IsState (applied S (effects_view b.effects))
batch_valid (done h same valid) = valid

pub batches_all : (S : State) (os : List (commands.Offer × Bytes)) (now : ℕ) (b : Batched) → AnswersBatch S (commands.batch S.trusted os now) (Ok b)
    → Steps S (Batch os) now (applied S (effects_view b.effects), BatchDone b.accepted b.same)
batches_all S os now b (done h same valid) =
    subst (λ (T : State). Steps S (Batch os) now (T, BatchDone b.accepted b.same)) (sym same)
    (leads (Ok (record { trusted = brought S.trusted (effects_view b.effects); accepted = b.accepted; same = b.same })) h)

pub batch_refused : (S : State) (os : List (commands.Offer × Bytes)) (now : ℕ) (refusal : BatchRefusal) (r : Result Answer StoreFault)
    → AnswersBatch S (commands.batch S.trusted os now) (Err refusal) → IsBatchRefusal refusal r → Answered S (Batch os) now r
batch_refused S os now (batches.Denied d i) r (denied h) is = answered_as S (Batch os) now r _ is (leads (Err (denial_view d, i)) h)
batch_refused S os now batches.OutOfMemory r h is = answered_as S (Batch os) now r _ is tt

pub batch_refusal_sound : (refusal : BatchRefusal) (r : Result Answer StoreFault) → IsBatchRefusal refusal r → r ≡ Err Damaged → ⊥
batch_refusal_sound (batches.Denied d i) r is same = let k : ◌≡◌ {A = Result Answer StoreFault} (Ok (answers.Denied d (Some i))) (Err Damaged) = sym is ∙ same in cc
batch_refusal_sound batches.OutOfMemory r is same = let k : ◌≡◌ {A = Result Answer StoreFault} (Err OutOfMemory) (Err Damaged) = sym is ∙ same in cc

-- ---- files

pub copy_sound : (b : Bytes) (r : Result Answer StoreFault) → IsCopied b r → r ≡ Err Damaged → ⊥
copy_sound b r (copied {copy = copy} is) same = let k : ◌≡◌ {A = Result Answer StoreFault} (Ok (answers.Bytes copy)) (Err Damaged) = same in cc
copy_sound b r wanting same = let k : ◌≡◌ {A = Result Answer StoreFault} (Err OutOfMemory) (Err Damaged) = same in cc

pub file_found : (S : State) (name : Bytes) (now : ℕ) (b : Bytes) (r : Result Answer StoreFault) → metadata_of S.trusted name ≡ Some b → IsCopied b r → Answered S (Metadata name) now r
file_found S name now b r found (copied is) = rw (found, is) refl
file_found S name now b r found wanting = tt

pub file_absent : (S : State) (name : Bytes) (now : ℕ) → metadata_of S.trusted name ≡ None → Steps S (Metadata name) now (S, Absent)
file_absent S name now none = rw none refl
