-- Commands, replies, and runs of commands.
use Rattle.std.specs.Prelude.{◌≡◌, ℕ, ◌-◌, length, Bool, true, false, List, [], ◌∷◌, Option, Some, None, Result, Ok, Err}
use Rattle.metadata.specs.File.{Bytes}
use Rattle.denials.specs.Orders.{Denial, Denied, Same, Judged}
use Rattle.trust_rules.specs.State.{Trusted, State, IsCoherent, metadata_of}
use Rattle.trust_rules.specs.Offers.{Offer, Batched, init, offer, batch, put_blob, prune}
use Rattle.trust_rules.specs.Grants.{grants}

pub data Command : Type 0 where
  Init : Bytes → Command
  Batch : List (Offer × Bytes) → Command
  OfferOne : Offer → Bytes → Command
  PutBlob : Bytes → Bytes → Command
  Prune : Command
  Metadata : Bytes → Command
  Target : Bytes → Option Bytes → Command

pub data Reply : Type 0 where
  Begun : Reply
  BatchDone : ℕ → ℕ → Reply
  Offered : Bool → Reply
  Stored : Bool → Reply
  Pruned : ℕ → ℕ → Reply
  FileBytes : Bytes → Reply
  Absent : Reply
  Refused : Denial → Option ℕ → Reply

-- what a command leaves and replies
abbrev pub Outcome : Type 0
Outcome = State × Reply

abbrev pub with_trusted : State → Trusted → State
with_trusted S T = record S { trusted = T }

-- a judgement as an outcome: a change with its reply, or no change
abbrev pub settled : {A : Type 0} → State → (A → Outcome) → Reply → Judged A → Outcome
settled S done same (Ok a) = done a
settled S done same (Err Same) = (S, same)
settled S done same (Err (Denied d)) = (S, Refused d None)

abbrev pub batch_outcome : State → Result Batched (Denial × ℕ) → Outcome
batch_outcome S (Ok B) = (with_trusted S B.trusted, BatchDone B.accepted B.same)
batch_outcome S (Err d) = (S, Refused d.0 (Some d.1))

abbrev pub metadata_reply : Option Bytes → Reply
metadata_reply (Some b) = FileBytes b
metadata_reply None = Absent

-- how many blobs and how many rows of the shelf went
abbrev pub pruned_reply : State → State → Reply
pruned_reply S T = Pruned (length S.blobs - length T.blobs) (length S.trusted.shelf - length T.trusted.shelf)

-- the outcome that a judgement makes
pub data Leads {A : Type 0} (m : A → Type 0) (out : A → Outcome) : Outcome → Type 0 where
  leads : (j : A) → m j → Leads m out (out j)

abbrev pub Steps : State → Command → ℕ → Outcome → Type 0
Steps S (Init b) now = Leads (init S b) (settled S (λ T. (T, Begun)) Begun)
Steps S (Batch os) now = Leads (batch S.trusted os now) (batch_outcome S)
Steps S (OfferOne o b) now = Leads (offer S.trusted o b now) (settled S (λ T. (with_trusted S T, Offered false)) (Offered true))
Steps S (PutBlob digest b) now = Leads (put_blob S digest b) (settled S (λ T. (T, Stored true)) (Stored false))
Steps S Prune now = Leads (prune S) (settled S (λ T. (T, pruned_reply S T)) (Pruned 0 0))
Steps S (Metadata name) now = λ r. r ≡ (S, metadata_reply (metadata_of S.trusted name))
Steps S (Target path asked) now = Leads (grants S path asked now) (settled S (λ b. (S, FileBytes b)) Absent)

-- what a request for a target is replied: the bytes that are granted, or the first denial
abbrev pub IsGranted : State → Bytes → Option Bytes → ℕ → Reply → Type 0
IsGranted S path asked now (FileBytes b) = grants S path asked now (Ok b)
IsGranted S path asked now (Refused d None) = grants S path asked now (Err (Denied d))
IsGranted S path asked now reply = ⊥

-- a run of commands, each at its moment
pub data Runs : State → List (Command × ℕ) → State → List Reply → Type 0 where
  done : {S : State} → Runs S [] S []
  next : {S T U : State} {c : Command} {now : ℕ} {cs : List (Command × ℕ)} {reply : Reply} {replies : List Reply}
      → Steps S c now (T, reply) → Runs T cs U replies → Runs S ((c, now) ∷ cs) U (reply ∷ replies)

-- a single offer is not judged by coherence
abbrev pub MayUpset : Command → Type 0
MayUpset (OfferOne o b) = Unit {0}
MayUpset c = ⊥

-- every other command leaves a state coherent that was
abbrev pub StaysCoherent : Type 0
StaysCoherent = (S T : State) (c : Command) (now : ℕ) (reply : Reply)
    → ¬ MayUpset c → IsCoherent S.trusted → Steps S c now (T, reply) → IsCoherent T.trusted
