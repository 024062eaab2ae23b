-- What a store replies to one who asks for a target.
use Rattle.std.proofs.Common.{◌≡◌, ℕ, Option, Some, None, Ok, Err, sym, subst}
use Rattle.metadata.specs.File.{Bytes}
use Rattle.denials.specs.Orders.{Denial, Denied}
use Rattle.trust_rules.specs.State.{State}
use Rattle.trust_rules.specs.Grants.{grants}
use Rattle.trust_rules.specs.Runs.{Target, Reply, Begun, Offered, BatchDone, Stored, Pruned, FileBytes, Absent, Refused, IsGranted, Steps}
use Rattle.store.specs.Applies.{Replies}
use Rattle.store.specs.Applies as applied
use Rattle.store.specs.Standing.{IsClean, Standing, StandsAt}
use Rattle.store.specs.Views.{reply_view}
use Rattle.store.specs.declared.command.Reply.{Reply as Answer}
use Rattle.store.specs.declared.command.Reply.TheVariants as replies
use Rattle.client.specs.Changes.{Changes}
use Rattle.client.specs.declared.fetching.Asked.{Asked}
use Rattle.client.specs.steps.Asked.{IsAsked, IsSaidBy, IsTargetReply}

-- what the machine's law says of a request for a target
abbrev Tells : Type 0
Tells = (S T : State) (path : Bytes) (asked : Option Bytes) (now : ℕ) (reply : Reply) → Steps S (Target path asked) now (T, reply) → (T ≡ S) × IsGranted S path asked now reply

module _ (tells : Tells) where
  is_granted : (S : State) (path : Bytes) (asked : Option Bytes) (now : ℕ) (reply : Reply) → IsGranted S path asked now reply → IsTargetReply reply
  is_granted S path asked now (FileBytes b) h = tt
  is_granted S path asked now (Refused d None) h = tt
  is_granted S path asked now (Refused d (Some index)) h = tt
  is_granted S path asked now Begun h = absurd h
  is_granted S path asked now (Offered same) h = absurd h
  is_granted S path asked now (BatchDone a s) h = absurd h
  is_granted S path asked now (Stored new) h = absurd h
  is_granted S path asked now (Pruned b s) h = absurd h
  is_granted S path asked now Absent h = absurd h

  is_reply : (S T : State) (path : Bytes) (asked : Option Bytes) (now : ℕ) (reply : Reply) → Steps S (Target path asked) now (T, reply) → IsTargetReply reply
  is_reply S T path asked now reply h = is_granted S path asked now reply (tells S T path asked now reply h).1

  granted : (S T : State) (path : Bytes) (asked : Option Bytes) (now : ℕ) (b : Bytes) → Steps S (Target path asked) now (T, FileBytes b) → grants S path asked now (Ok b)
  granted S T path asked now b h = (tells S T path asked now (FileBytes b) h).1

  refused : (S T : State) (path : Bytes) (asked : Option Bytes) (now : ℕ) (d : Denial) (index : Option ℕ)
      → Steps S (Target path asked) now (T, Refused d index) → grants S path asked now (Err (Denied d))
  refused S T path asked now d None h = (tells S T path asked now (Refused d None) h).1
  refused S T path asked now d (Some index) h = absurd (tells S T path asked now (Refused d (Some index)) h).1

  -- ---- the same of bytes that a disk may have said wrongly

  so_reply : (trusted : Type 0) (S T : State) (path : Bytes) (asked : Option Bytes) (now : ℕ) (reply : Reply) → Replies trusted S (Target path asked) now T reply → IsTargetReply reply
  so_reply trusted S T path asked now (FileBytes b) h = tt
  so_reply trusted S T path asked now (Refused d index) h = tt
  so_reply trusted S T path asked now Begun h = is_reply S T path asked now Begun h
  so_reply trusted S T path asked now (Offered same) h = is_reply S T path asked now (Offered same) h
  so_reply trusted S T path asked now (BatchDone a s) h = is_reply S T path asked now (BatchDone a s) h
  so_reply trusted S T path asked now (Stored new) h = is_reply S T path asked now (Stored new) h
  so_reply trusted S T path asked now (Pruned b s) h = is_reply S T path asked now (Pruned b s) h
  so_reply trusted S T path asked now Absent h = is_reply S T path asked now Absent h

  -- a store replies bytes or a denial
  pub target_reply : (A B : Standing) (path : Bytes) (now : ℕ) (reply : Answer) (S : State) → StandsAt A S → applied.Makes A B (Target path None) now (Ok reply)
      → IsTargetReply (reply_view reply)
  target_reply A B path now reply S at makes = let (T, to, so) = makes.0 S at in so_reply _ S T path None now (reply_view reply) so

  asked_is : (trusted : Type 0) (S T : State) (path : Bytes) (now : ℕ) (answer : Answer) (asked : Asked) → Replies trusted S (Target path None) now T (reply_view answer)
      → IsSaidBy answer asked → (T ≡ S) × IsAsked trusted S path now asked
  asked_is trusted S T path now (replies.Bytes bytes) asked h is =
      (h.0, subst (IsAsked trusted S path now) (sym is) (λ clean. granted S T path None now bytes.items (h.1 clean)))
  asked_is trusted S T path now (replies.Denied denial index) asked h is =
      (h.0, subst (IsAsked trusted S path now) (sym is) (λ known. refused S T path None now _ index (h.1 known)))
  asked_is trusted S T path now replies.Begun asked h is = absurd is
  asked_is trusted S T path now (replies.Batch a s) asked h is = absurd is
  asked_is trusted S T path now (replies.Offered s) asked h is = absurd is
  asked_is trusted S T path now (replies.Stored s) asked h is = absurd is
  asked_is trusted S T path now (replies.Pruned b s) asked h is = absurd is
  asked_is trusted S T path now replies.Absent asked h is = absurd is

  -- and the client's answer says it
  pub target_asked : (A B : Standing) (text path : Bytes) (now : ℕ) (reply : Answer) (asked : Asked) → applied.Makes A B (Target text None) now (Ok reply) → IsSaidBy reply asked → text ≡ path
      → Changes A B (λ C D. (D ≡ C) × IsAsked (IsClean B) C path now asked)
  target_asked A B text path now reply asked makes is same =
      subst (λ p. Changes A B (λ C D. (D ≡ C) × IsAsked (IsClean B) C p now asked)) same (record {
        moves = λ S at. let (T, to, so) = makes.0 S at in (T, to, asked_is _ S T text now reply asked so is);
        clean = makes.1.clean;
      })
