-- What `publish --in` does over a repository where files wait, and how it ends.
use Rattle.std.proofs.Common.{◌≡◌, ℕ, List, Option, Result, Ok, Err, inl, inr, refl, sym, subst}
use Rattle.denials.specs.Orders.{Denial}
use Rattle.denials.specs.Views.{denial_view}
use Rattle.trust_rules.proofs.GrantsEnd.{refusals_keep}
use Rattle.trust_rules.specs.State.{State}
use Rattle.trust_rules.specs.Runs.{Command, PutBlob, Refused, Steps}
use Rattle.trust_rules.specs.Runs as runs
use Rattle.store.specs.Standing.{Standing, StandsAt}
use Rattle.store.specs.Views.{reply_view}
use Rattle.store.specs.declared.command.Reply.{Reply}
use Rattle.store.specs.declared.command.Reply.TheVariants as replies
use Rattle.cli_faults.specs.Statuses.{status_of}
use Rattle.cli_faults.specs.declared.fault.Fault.{Fault}
use Rattle.cli_faults.specs.declared.fault.Fault.TheVariants as faults
use Rattle.cli_repository.specs.Faults.{refused_of}
use Rattle.cli_repository.specs.Works.{Does, EndsBy, MakesOne, Worked, over, unopened}
use Rattle.release.specs.AfterPuts.{AllPut, EndsAfterPuts, IsUndenied, NotDone, PublishesOver, Puts, PutsOver, kept, no_puts, none, one_put, put}
use Rattle.release.proofs.Ending.{IsPlain}

pub then_over : (now : ℕ) (A B C : Standing) → PutsOver now A B → PutsOver now B C → PutsOver now A C
then_over now A B _ h none = h
then_over now A B C h (kept {B = D} k keeps) = kept (then_over now A B D h k) keeps
then_over now A B C h (put {B = D} digest bytes reply k makes) = put digest bytes reply (then_over now A B D h k) makes

-- a fault that is no denial
pub other_over : (now : ℕ) (A C : Standing) (fault : Fault) → IsUndenied fault → PutsOver now A C → NotDone now A fault C
other_over now A C (faults.Denied denial index) u h = absurd u
other_over now A C (faults.Usage text) u h = h
other_over now A C (faults.Help text) u h = h
other_over now A C (faults.Refused number name index) u h = h
other_over now A C (faults.Slip slip) u h = h
other_over now A C faults.Due u h = h
other_over now A C faults.NotFresh u h = h
other_over now A C faults.LeavesSpent u h = h
other_over now A C faults.UnknownKey u h = h
other_over now A C faults.Memory u h = h
other_over now A C faults.Database u h = h
other_over now A C faults.Damaged u h = h
other_over now A C faults.Network u h = h
other_over now A C faults.File u h = h
other_over now A C faults.Clock u h = h

pub undenied : (fault : Fault) → status_of fault ≡ 3 → IsUndenied fault
undenied (faults.Denied denial index) e = absurd cc
undenied (faults.Usage text) e = tt
undenied (faults.Help text) e = tt
undenied (faults.Refused number name index) e = tt
undenied (faults.Slip slip) e = tt
undenied faults.Due e = tt
undenied faults.NotFresh e = tt
undenied faults.LeavesSpent e = tt
undenied faults.UnknownKey e = tt
undenied faults.Memory e = tt
undenied faults.Database e = tt
undenied faults.Damaged e = tt
undenied faults.Network e = tt
undenied faults.File e = tt
undenied faults.Clock e = tt

pub after_puts : (now : ℕ) (A B C : Standing) (fault : Fault) → PutsOver now A B → NotDone now B fault C → NotDone now A fault C
after_puts now A B C (faults.Denied denial index) h k = (k.0, then_over now A B k.0 h k.1, k.2)
after_puts now A B C (faults.Usage text) h k = then_over now A B C h k
after_puts now A B C (faults.Help text) h k = then_over now A B C h k
after_puts now A B C (faults.Refused number name index) h k = then_over now A B C h k
after_puts now A B C (faults.Slip slip) h k = then_over now A B C h k
after_puts now A B C faults.Due h k = then_over now A B C h k
after_puts now A B C faults.NotFresh h k = then_over now A B C h k
after_puts now A B C faults.LeavesSpent h k = then_over now A B C h k
after_puts now A B C faults.UnknownKey h k = then_over now A B C h k
after_puts now A B C faults.Memory h k = then_over now A B C h k
after_puts now A B C faults.Database h k = then_over now A B C h k
after_puts now A B C faults.Damaged h k = then_over now A B C h k
after_puts now A B C faults.Network h k = then_over now A B C h k
after_puts now A B C faults.File h k = then_over now A B C h k
after_puts now A B C faults.Clock h k = then_over now A B C h k

pub all_after : (now : ℕ) (A B C : Standing) (r : Result (Unit {0}) Fault) → PutsOver now A B → AllPut now B r C → AllPut now A r C
all_after now A B C (Ok u) h k = then_over now A B C h k
all_after now A B C (Err fault) h k = after_puts now A B C fault h k

-- a put that was replied otherwise
pub put_refused : (now : ℕ) (A B : Standing) (digest bytes : List ℕ) (reply : Reply) → MakesOne (PutBlob digest bytes) now A (Ok reply) B → NotDone now A (refused_of reply) B
put_refused now A B digest bytes (replies.Denied denial index) h = (A, none, (digest, bytes, replies.Denied denial index, h, refl))
put_refused now A B digest bytes replies.Begun h = put digest bytes replies.Begun none h
put_refused now A B digest bytes (replies.Batch accepted same) h = put digest bytes (replies.Batch accepted same) none h
put_refused now A B digest bytes (replies.Offered same) h = put digest bytes (replies.Offered same) none h
put_refused now A B digest bytes (replies.Stored new) h = put digest bytes (replies.Stored new) none h
put_refused now A B digest bytes (replies.Pruned blobs rows) h = put digest bytes (replies.Pruned blobs rows) none h
put_refused now A B digest bytes (replies.Bytes found) h = put digest bytes (replies.Bytes found) none h
put_refused now A B digest bytes replies.Absent h = put digest bytes replies.Absent none h

-- files were put, and then the batch was judged, or was not
pub published : (command : Command) (now : ℕ) (A B C : Standing) (r : Result Reply Fault) → PutsOver now A B → MakesOne command now B r C → PublishesOver command now A r C
published command now A B C (Ok reply) h m = (B, h, m)
published command now A B C (Err fault) h m = other_over now A C fault (undenied fault m.0) (kept h m.1)

-- a store that stood at a state stands at one that puts lead to
pub puts_between : (now : ℕ) (A B : Standing) (S : State) → StandsAt A S → PutsOver now A B → (T : State) × StandsAt B T × Puts now S T
puts_between now A _ S at none = (S, at, no_puts)
puts_between now A C S at (kept {B = D} k keeps) =
    let (T, there, some) = puts_between now A D S at k in
    let (U, then, e) = keeps.state T there in
    (U, then, subst (λ (V : State). Puts now S V) (sym e) some)
puts_between now A C S at (put {B = D} digest bytes reply k makes) =
    let (T, there, some) = puts_between now A D S at k in
    let (U, then, step) = makes T there in
    (U, then, one_put digest bytes (reply_view reply) some step)

-- a denial changes nothing
pub stays : (T U : State) (command : Command) (now : ℕ) (reply : runs.Reply) (d : Denial) (index : Option ℕ) → Steps T command now (U, reply) → reply ≡ Refused d index
    → Steps T command now (T, Refused d index)
stays T U command now reply d index h e =
    let step : Steps T command now (U, Refused d index) = subst (λ (x : runs.Reply). Steps T command now (U, x)) e h in
    subst (λ (V : State). Steps T command now (V, Refused d index)) (refusals_keep T U command now d index step) step

module _ (command : Command) (now : ℕ) (IsDone : runs.Reply → Type 0) where
  -- nothing is said of a fault that is no denial
  pub unsaid : (fault : Fault) → IsUndenied fault → EndsAfterPuts command now IsDone (Err fault)
  unsaid (faults.Denied denial index) u = absurd u
  unsaid (faults.Usage text) u = tt
  unsaid (faults.Help text) u = tt
  unsaid (faults.Refused number name index) u = tt
  unsaid (faults.Slip slip) u = tt
  unsaid faults.Due u = tt
  unsaid faults.NotFresh u = tt
  unsaid faults.LeavesSpent u = tt
  unsaid faults.UnknownKey u = tt
  unsaid faults.Memory u = tt
  unsaid faults.Database u = tt
  unsaid faults.Damaged u = tt
  unsaid faults.Network u = tt
  unsaid faults.File u = tt
  unsaid faults.Clock u = tt

  pub ends_by : (S T U : State) (reply : runs.Reply) (r : Result (Unit {0}) Fault) → Puts now S T → Steps T command now (U, reply) → EndsBy reply IsDone r
      → EndsAfterPuts command now IsDone r
  ends_by S T U reply (Ok u) some step e = (S, T, U, reply, some, step, e)
  ends_by S T U reply (Err (faults.Denied denial index)) some step e = (S, T, some, inl (stays T U command now reply (denial_view denial) index step e))
  ends_by S T U reply (Err (faults.Usage text)) some step e = tt
  ends_by S T U reply (Err (faults.Help text)) some step e = tt
  ends_by S T U reply (Err (faults.Refused number name index)) some step e = tt
  ends_by S T U reply (Err (faults.Slip slip)) some step e = tt
  ends_by S T U reply (Err faults.Due) some step e = tt
  ends_by S T U reply (Err faults.NotFresh) some step e = tt
  ends_by S T U reply (Err faults.LeavesSpent) some step e = tt
  ends_by S T U reply (Err faults.UnknownKey) some step e = tt
  ends_by S T U reply (Err faults.Memory) some step e = tt
  ends_by S T U reply (Err faults.Database) some step e = tt
  ends_by S T U reply (Err faults.Damaged) some step e = tt
  ends_by S T U reply (Err faults.Network) some step e = tt
  ends_by S T U reply (Err faults.File) some step e = tt
  ends_by S T U reply (Err faults.Clock) some step e = tt

  pub not_done : (A C : Standing) (S : State) (fault : Fault) → StandsAt A S → NotDone now A fault C → EndsAfterPuts command now IsDone (Err fault)
  not_done A C S (faults.Denied denial index) at h =
      let (T, there, some) = puts_between now A h.0 S at h.1 in
      let (digest, bytes, reply, makes, is) = h.2 in
      let (U, then, step) = makes T there in
      (S, T, some, inr (digest, bytes, stays T U (PutBlob digest bytes) now (reply_view reply) (denial_view denial) index step is))
  not_done A C S (faults.Usage text) at h = tt
  not_done A C S (faults.Help text) at h = tt
  not_done A C S (faults.Refused number name index) at h = tt
  not_done A C S (faults.Slip slip) at h = tt
  not_done A C S faults.Due at h = tt
  not_done A C S faults.NotFresh at h = tt
  not_done A C S faults.LeavesSpent at h = tt
  not_done A C S faults.UnknownKey at h = tt
  not_done A C S faults.Memory at h = tt
  not_done A C S faults.Database at h = tt
  not_done A C S faults.Damaged at h = tt
  not_done A C S faults.Network at h = tt
  not_done A C S faults.File at h = tt
  not_done A C S faults.Clock at h = tt

  pub ended_over : IsPlain command now → {Work : Type 0} (does : Does Work Reply) (work left : Work) (reply : Reply)
      → ((A B : Standing) (q : Result Reply Fault) (v : Work) → does work A q B v → PublishesOver command now A q B)
      → Worked does work (Ok reply) left → (r : Result (Unit {0}) Fault) → EndsBy (reply_view reply) IsDone r → EndsAfterPuts command now IsDone r
  ended_over plain does work left reply made (over S A C at d) r e =
      let h = made A C (Ok reply) left d in
      let (T, there, some) = puts_between now A h.0 S at h.1 in
      let (U, then, replied) = h.2 T there in
      ends_by S T U (reply_view reply) r some (plain _ T U (reply_view reply) replied) e

  pub failed_over : {Work : Type 0} (does : Does Work Reply) (work left : Work) (fault : Fault)
      → ((A B : Standing) (q : Result Reply Fault) (v : Work) → does work A q B v → PublishesOver command now A q B)
      → Worked does work (Err fault) left → EndsAfterPuts command now IsDone (Err fault)
  failed_over does work left fault made (over S A C at d) = not_done A C S fault at (made A C (Err fault) left d)
  failed_over does work _ fault made (unopened e) = unsaid fault (undenied fault e)
