-- Where a store stands after a command.
use Rattle.std.proofs.Common.{◌≡◌, inl, inr, ℕ, List, Option, None, Some, Result, Ok, Err, refl, sym, ap, subst}
use Rattle.std.specs.Prelude.{OnOk, OnErr}
use Rattle.std.specs.Io.KnownBytes.{Appends}
use Rattle.trust_rules.specs.State.{State}
use Rattle.trust_rules.specs.Runs.{Command, Batch, PutBlob, Prune, Metadata, Target, Init, OfferOne, Reply, Begun, BatchDone, Offered, Stored, Pruned, FileBytes, Absent, Refused, Steps, leads, Leads, settled, batch_outcome, Outcome, metadata_reply}
use Rattle.denials.specs.Orders as orders
use Rattle.store.specs.Applies.{Makes, Replies}
use Rattle.table_rows.specs.declared.faults.StoreFault.{StoreFault}
use Rattle.table_rows.specs.declared.faults.StoreFault.TheVariants.{OutOfMemory, Database, Damaged}
use Rattle.store.specs.Views.{reply_view}
use Rattle.store.specs.declared.command.Reply.{Reply as Answer}
use Rattle.http_messages.specs.Faults.{fault_response}
use Rattle.http_messages.specs.Taken.{TookSome}
use Rattle.http_messages.specs.declared.faults.Fault.{Fault as Said}
use Rattle.http_messages.specs.declared.line.Cut.{Cut}
use Rattle.store.specs.Standing.{Keeps, Standing, StandsAt}
use Rattle.http_serve.specs.Response.{kind_of}
use Rattle.http_serve.specs.Serving.{Made, by_step, no_memory, no_database, Wrote}
use Rattle.http_serve.specs.declared.replies.Written.{Written}
use Rattle.http_serve.specs.steps.Views.{IsDenial, IsServed, IsSaid, IsUnmade, Told, Performed, WroteAs}

-- a text was written by two clauses of a call
pub wrote : (old new : Option (List ℕ)) (text : List ℕ) (r : Result (Unit {0}) Cut) → OnOk r (Appends old new text) → OnErr r (TookSome old new text) → Wrote old new text r
wrote old new text (Ok u) ok err = ok
wrote old new text (Err e) ok err = err

-- no call at all
pub rests : (A : Standing) → Keeps A A
rests A = record { state = λ S at. (S, at, refl); clean = λ clean. clean }

-- ---- what steps leave and reply

invert : {A : Type 0} {m : A → Type 0} {out : A → Outcome} {o : Outcome} → Leads m out o → (j : A) × m j × (o ≡ out j)
invert (leads j h) = (j, h, refl)

settled-said : {A : Type 0} (S : State) (done : A → Outcome) (same : Reply) (j : orders.Judged A) (T : State) (reply : Reply)
    → ((a : A) → IsSaid (done a).1) → IsSaid same → ◌≡◌ {A = Outcome} (T, reply) (settled S done same j) → IsSaid reply
settled-said S done same (Ok a) T reply of_done of_same e = subst IsSaid (sym (ap (λ (o : Outcome). o.1) e)) (of_done a)
settled-said S done same (Err orders.Same) T reply of_done of_same e = subst IsSaid (sym (ap (λ (o : Outcome). o.1) e)) of_same
settled-said S done same (Err (orders.Denied d)) T reply of_done of_same e = subst IsSaid (sym (ap (λ (o : Outcome). o.1) e)) tt

batch-said : (S : State) (j : _) (T : State) (reply : Reply) → ◌≡◌ {A = Outcome} (T, reply) (batch_outcome S j) → IsSaid reply
batch-said S (Ok B) T reply e = subst IsSaid (sym (ap (λ (o : Outcome). o.1) e)) tt
batch-said S (Err d) T reply e = subst IsSaid (sym (ap (λ (o : Outcome). o.1) e)) tt

name-said : (o : Option (List ℕ)) → IsSaid (metadata_reply o)
name-said (Some b) = tt
name-said None = tt

-- the machine replies to a command of a request what can be said
pub said : (S T : State) (c : Command) (now : ℕ) (reply : Reply) → IsServed c → Steps S c now (T, reply) → IsSaid reply
said S T (Init b) now reply served h = absurd served
said S T (OfferOne o b) now reply served h = absurd served
said S T (Batch os) now reply served h = let (j, m, e) = invert h in batch-said S j T reply e
said S T (PutBlob digest b) now reply served h = let (j, m, e) = invert h in settled-said S _ _ j T reply (λ a. tt) tt e
said S T Prune now reply served h = let (j, m, e) = invert h in settled-said S _ _ j T reply (λ a. tt) tt e
said S T (Metadata name) now reply served h = subst IsSaid (sym (ap (λ (o : Outcome). o.1) h)) (name-said _)
said S T (Target path asked) now reply served h = let (j, m, e) = invert h in settled-said S _ _ j T reply (λ a. tt) tt e

settled-keeps : {A : Type 0} (S : State) (done : A → Outcome) (same : Reply) (j : orders.Judged A) (T : State) (reply : Reply)
    → ((a : A) → IsDenial (done a).1 → ⊥) → IsDenial reply → ◌≡◌ {A = Outcome} (T, reply) (settled S done same j) → T ≡ S
settled-keeps S done same (Ok a) T reply of_done denial e = absurd (of_done a (subst IsDenial (ap (λ (o : Outcome). o.1) e) denial))
settled-keeps S done same (Err orders.Same) T reply of_done denial e = ap (λ (o : Outcome). o.0) e
settled-keeps S done same (Err (orders.Denied d)) T reply of_done denial e = ap (λ (o : Outcome). o.0) e

batch-keeps : (S : State) (j : _) (T : State) (reply : Reply) → IsDenial reply → ◌≡◌ {A = Outcome} (T, reply) (batch_outcome S j) → T ≡ S
batch-keeps S (Ok B) T reply denial e = absurd (subst IsDenial (ap (λ (o : Outcome). o.1) e) denial)
batch-keeps S (Err d) T reply denial e = ap (λ (o : Outcome). o.0) e

-- a denial leaves the state as it was
pub keeps : (S T : State) (c : Command) (now : ℕ) (reply : Reply) → IsServed c → IsDenial reply → Steps S c now (T, reply) → T ≡ S
keeps S T (Init b) now reply served denial h = absurd served
keeps S T (OfferOne o b) now reply served denial h = absurd served
keeps S T (Batch os) now reply served denial h = let (j, m, e) = invert h in batch-keeps S j T reply denial e
keeps S T (PutBlob digest b) now reply served denial h = let (j, m, e) = invert h in settled-keeps S _ _ j T reply (λ a d. d) denial e
keeps S T Prune now reply served denial h = let (j, m, e) = invert h in settled-keeps S _ _ j T reply (λ a d. d) denial e
keeps S T (Metadata name) now reply served denial h = ap (λ (o : Outcome). o.0) h
keeps S T (Target path asked) now reply served denial h = let (j, m, e) = invert h in settled-keeps S _ _ j T reply (λ a d. d) denial e

-- ---- the same of replies whose bytes a disk may have said wrongly

pub said_so : (trusted : Type 0) (S T : State) (c : Command) (now : ℕ) (reply : Reply) → IsServed c → Replies trusted S c now T reply → IsSaid reply
said_so trusted S T (Init b) now reply served h = absurd served
said_so trusted S T (OfferOne o b) now reply served h = absurd served
said_so trusted S T (Batch os) now reply served h = said S T (Batch os) now reply served h
said_so trusted S T (PutBlob digest b) now reply served h = said S T (PutBlob digest b) now reply served h
said_so trusted S T Prune now reply served h = said S T Prune now reply served h
said_so trusted S T (Metadata name) now reply served h = said S T (Metadata name) now reply served h
said_so trusted S T (Target path asked) now Begun served h = said S T (Target path asked) now Begun served h
said_so trusted S T (Target path asked) now (Offered same) served h = said S T (Target path asked) now (Offered same) served h
said_so trusted S T (Target path asked) now (BatchDone a s) served h = tt
said_so trusted S T (Target path asked) now (Stored new) served h = tt
said_so trusted S T (Target path asked) now (Pruned blobs rows) served h = tt
said_so trusted S T (Target path asked) now (FileBytes bytes) served h = tt
said_so trusted S T (Target path asked) now Absent served h = tt
said_so trusted S T (Target path asked) now (Refused d index) served h = tt

pub keeps_so : (trusted : Type 0) (S T : State) (c : Command) (now : ℕ) (reply : Reply) → IsServed c → IsDenial reply → Replies trusted S c now T reply → T ≡ S
keeps_so trusted S T (Init b) now reply served denial h = absurd served
keeps_so trusted S T (OfferOne o b) now reply served denial h = absurd served
keeps_so trusted S T (Batch os) now reply served denial h = keeps S T (Batch os) now reply served denial h
keeps_so trusted S T (PutBlob digest b) now reply served denial h = keeps S T (PutBlob digest b) now reply served denial h
keeps_so trusted S T Prune now reply served denial h = keeps S T Prune now reply served denial h
keeps_so trusted S T (Metadata name) now reply served denial h = keeps S T (Metadata name) now reply served denial h
keeps_so trusted S T (Target path asked) now Begun served denial h = absurd denial
keeps_so trusted S T (Target path asked) now (Offered same) served denial h = absurd denial
keeps_so trusted S T (Target path asked) now (BatchDone a s) served denial h = absurd denial
keeps_so trusted S T (Target path asked) now (Stored new) served denial h = absurd denial
keeps_so trusted S T (Target path asked) now (Pruned blobs rows) served denial h = absurd denial
keeps_so trusted S T (Target path asked) now (FileBytes bytes) served denial h = absurd denial
keeps_so trusted S T (Target path asked) now Absent served denial h = absurd denial
keeps_so trusted S T (Target path asked) now (Refused d index) served denial h = h.0

-- the reply to a command can be said
pub replied : (A B : Standing) (c : Command) (now : ℕ) (reply : Answer) (S : State) → StandsAt A S → IsServed c → Makes A B c now (Ok reply) → IsSaid (reply_view reply)
replied A B c now reply S at served makes = let (T, to, so) = makes.0 S at in said_so _ S T c now (reply_view reply) served so

-- ---- a command and its answer

-- a reply was written
pub told : (A B : Standing) (c : Command) (now : ℕ) (reply : Answer) (from to : Option (List ℕ)) (r : Written)
    → IsServed c → Makes A B c now (Ok reply) → Told (kind_of c) (reply_view reply) from to r → Performed A c now B from to r
told A B c now reply from to r served (moves, holds) (text, inl says, wrote) = (text, by_step (reply_view reply) text B moves says holds, wrote)
told A B c now reply from to r served (moves, holds) (text, inr (denial, e), wrote) = (
  text,
  subst (λ t. Made A c now t B) (sym e) (no_memory B (record {
    state = λ S at. let (T, there, so) = moves S at in (T, there, keeps_so _ S T c now (reply_view reply) served denial so);
    clean = holds.clean;
  })),
  wrote,
)

-- that the command was not made was written
pub untold : (A B : Standing) (c : Command) (now : ℕ) (fault : StoreFault) (word : Said) (from to : Option (List ℕ)) (r : Written)
    → IsUnmade fault word → Makes A B c now (Err fault) → WroteAs from to (fault_response word) r → Performed A c now B from to r
untold A B c now OutOfMemory word from to r is kept wrote =
    (fault_response word, subst (λ w. Made A c now (fault_response w) B) (sym is) (no_memory B kept), wrote)
untold A B c now Database word from to r is kept wrote =
    (fault_response word, subst (λ w. Made A c now (fault_response w) B) (sym is) (no_database B kept), wrote)
untold A B c now Damaged word from to r is kept wrote = absurd kept

pub undamaged : (A B : Standing) (c : Command) (now : ℕ) (fault : StoreFault) → Makes A B c now (Err fault) → fault ≡ Damaged → ⊥
undamaged A B c now fault makes is = subst (λ (f : StoreFault). Makes A B c now (Err f)) is makes
