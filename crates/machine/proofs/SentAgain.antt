-- A batch in order that was accepted, when it is sent again: each document is the same.
use Rattle.std.proofs.Common.{◌≡◌, ℕ, suc, ◌+◌, List, [], ◌∷◌, ◌++◌, length, Option, Some, None, Result, Ok, Err, sym, ap, ◌∙◌, subst, arith}
use Rattle.std.specs.Prelude.{IfOk}
use Rattle.std.specs.List.{AllByRecursion}
use Rattle.metadata.specs.File.{Bytes, Name}
use Rattle.denials.specs.Orders as orders
use Rattle.denials.specs.Orders.{Judged, Same, judges}
use Rattle.denials.specs.Views.{denial_view}
use Rattle.trust_rules.specs.State.{IsCoherent, State, Trusted}
use Rattle.trust_rules.specs.Offers.{Batched, Ended, Offer, RootOffer, SnapshotOffer, TimestampOffer, batch, batch_from, coherent, going_on, incoherent, offer}
use Rattle.granting.specs.Answers.{AnswersBatch, denied, done, undone, IsAllSame}
use Rattle.trust_rules.specs.Effects.{brought}
use Rattle.trust_rules.specs.Resending.{IsInOrder, at_most_one, of_roles}
use Rattle.trust_rules.specs.Runs.{Batch, BatchDone, Outcome, Refused, Steps, batch_outcome, leads, with_trusted}
use Rattle.granting.specs.PartViews.{effects_view}
use Rattle.granting.specs.DeclaredBatched as code
use Rattle.granting.specs.DeclaredBatchRefusal.{BatchRefusal}
use Rattle.granting.specs.BatchRefusals as refusals
use Rattle.judging.proofs.BatchOneByOne.{so_far}
use Rattle.trust_rules.proofs.CoherentSteps.{led}
use Rattle.trust_rules.proofs.OfferedAgain.{Holds, Left, ListsOnce, holds_itself, holds_through, root_again, snapshot_again, snapshot_leaves, stood, targets_again, targets_leave, timestamp_again, timestamp_leaves, took}
use Rattle.trust_rules.proofs.OneJudgement.{batch-definite}
use Rattle.trust_rules.proofs.ShapedOnce.{Shapes}

-- ---- the offers of a batch, one after the other

data Ran (now : ℕ) : Trusted → List (Offer × Bytes) → Trusted → Type 0 where
  none : {T : Trusted} → Ran now T [] T
  one : {T U V : Trusted} {o : Offer × Bytes} {os : List (Offer × Bytes)} → Left (offer T o.0 o.1 now) T U → Ran now U os V → Ran now T (o ∷ os) V

abbrev Went : ℕ → Trusted → List (Offer × Bytes) → Trusted → Type 0
Went now T os U = Ran now T os U × IsCoherent U

ended_so : (B : Batched) (i now : ℕ) (r : Result Batched (orders.Denial × ℕ)) → Ended B i r → IfOk r (λ C. Went now B.trusted [] C.trusted)
ended_so B i now _ (coherent h) = (none, h)
ended_so B i now _ (incoherent h) = tt

went_on : (B C : Batched) (i now : ℕ) (o : Offer × Bytes) (os : List (Offer × Bytes)) → ((D : Batched) → batch_from D (suc i) os now (Ok C) → Went now D.trusted os C.trusted)
    → (j : Judged Trusted) → offer B.trusted o.0 o.1 now j → going_on B i (λ D. batch_from D (suc i) os now) j (Ok C) → Went now B.trusted (o ∷ os) C.trusted
went_on B C i now o os rest (Ok T) h k = let w = rest _ k in (one (took h) w.0, w.1)
went_on B C i now o os rest (Err Same) h k = let w = rest _ k in (one (stood h) w.0, w.1)
went_on B C i now o os rest (Err (orders.Denied d)) h k = let never : ◌≡◌ {A = Result Batched (orders.Denial × ℕ)} (Ok C) (Err (d, i)) = k in absurd cc

went : (B C : Batched) (i : ℕ) (os : List (Offer × Bytes)) (now : ℕ) → batch_from B i os now (Ok C) → Went now B.trusted os C.trusted
went B C i [] now h = ended_so B i now (Ok C) h
went B C i (o ∷ os) now (judges {j} h k) = went_on B C i now o os (λ D. went D C (suc i) os now) j h k

-- ---- each of them again

abbrev AreSame : ℕ → Trusted → List (Offer × Bytes) → Type 0
AreSame now U os = AllByRecursion (λ o. offer U o.0 o.1 now (Err Same)) os

targets_same : (ds : List (Name × Bytes)) (T U : Trusted) (now : ℕ) → Ran now T (of_roles ds) U → Holds T U × AreSame now U (of_roles ds)
targets_same [] T _ now none = (holds_itself T, tt)
targets_same (d ∷ ds) T U now (one {U = X} w r) =
    let rest = targets_same ds X U now r in
    (holds_through T X U (targets_leave T X d.0 d.1 now w) rest.0, (targets_again T X U d.0 d.1 now w rest.0, rest.1))

module _ (law : ListsOnce) where
  snapshots_same : (s : Option Bytes) (ds : List (Name × Bytes)) (T U : Trusted) (now : ℕ) → Ran now T (at_most_one SnapshotOffer s ++ of_roles ds) U
      → (U.root ≡ T.root) × (U.timestamp ≡ T.timestamp) × AreSame now U (at_most_one SnapshotOffer s ++ of_roles ds)
  snapshots_same None ds T U now r = let rest = targets_same ds T U now r in (rest.0.root, rest.0.timestamp, rest.1)
  snapshots_same (Some b) ds T U now (one {U = X} w r) =
      let rest = targets_same ds X U now r in
      let left = snapshot_leaves T X b now w in
      (rest.0.root ∙ left.0, rest.0.timestamp ∙ left.1, (snapshot_again law T X U b now w rest.0.root rest.0.timestamp rest.0.snapshot, rest.1))

  timestamps_same : (t s : Option Bytes) (ds : List (Name × Bytes)) (T U : Trusted) (now : ℕ)
      → Ran now T (at_most_one TimestampOffer t ++ (at_most_one SnapshotOffer s ++ of_roles ds)) U
      → (U.root ≡ T.root) × AreSame now U (at_most_one TimestampOffer t ++ (at_most_one SnapshotOffer s ++ of_roles ds))
  timestamps_same None s ds T U now r = let rest = snapshots_same s ds T U now r in (rest.0, rest.2)
  timestamps_same (Some b) s ds T U now (one {U = X} w r) =
      let rest = snapshots_same s ds X U now r in
      (rest.0 ∙ timestamp_leaves T X b now w, (timestamp_again T X U b now w rest.0 rest.1, rest.2))

  roots_same : (r t s : Option Bytes) (ds : List (Name × Bytes)) (T U : Trusted) (now : ℕ)
      → Ran now T (at_most_one RootOffer r ++ (at_most_one TimestampOffer t ++ (at_most_one SnapshotOffer s ++ of_roles ds))) U
      → AreSame now U (at_most_one RootOffer r ++ (at_most_one TimestampOffer t ++ (at_most_one SnapshotOffer s ++ of_roles ds)))
  roots_same None t s ds T U now h = (timestamps_same t s ds T U now h).1
  roots_same (Some b) t s ds T U now (one {U = X} w h) =
      let rest = timestamps_same t s ds X U now h in (root_again T X U b now w rest.0, rest.1)

  pub offers_again : (T : Trusted) (os : List (Offer × Bytes)) (now : ℕ) (B : Batched) → IsInOrder os → batch T os now (Ok B) → AreSame now B.trusted os
  offers_again T os now B o h =
      let w = went (so_far T 0 0) B 0 os now h in
      subst (λ (l : List (Offer × Bytes)). AreSame now B.trusted l) (sym o.are)
      (roots_same o.root o.timestamp o.snapshot o.targets T B.trusted now (subst (λ (l : List (Offer × Bytes)). Ran now T l B.trusted) o.are w.0))

-- ---- the batch again

all_same : (U : Trusted) (a s i now : ℕ) (os : List (Offer × Bytes)) → AreSame now U os → IsCoherent U → batch_from (so_far U a s) i os now (Ok (so_far U a (s + length os)))
all_same U a s i now [] h c =
    subst (λ (n : ℕ). Ended (so_far U a s) i (Ok (so_far U a n))) (omega arith) (coherent c)
all_same U a s i now (o ∷ os) h c =
    judges h.0 (subst (λ (n : ℕ). batch_from (so_far U a (suc s)) (suc i) os now (Ok (so_far U a n))) (omega arith) (all_same U a (suc s) (suc i) now os h.1 c))

module _ (law : ListsOnce) where
  pub batch_again : (T : Trusted) (os : List (Offer × Bytes)) (now : ℕ) (B : Batched) → IsInOrder os → batch T os now (Ok B)
      → batch B.trusted os now (Ok (so_far B.trusted 0 (length os)))
  batch_again T os now B o h =
      subst (λ (n : ℕ). batch B.trusted os now (Ok (so_far B.trusted 0 n))) (omega arith)
      (all_same B.trusted 0 0 0 now os (offers_again law T os now B o h) (went (so_far T 0 0) B 0 os now h).1)

  pub step_again : (S U : State) (os : List (Offer × Bytes)) (now a s : ℕ) → IsInOrder os → Steps S (Batch os) now (U, BatchDone a s)
      → Steps U (Batch os) now (U, BatchDone 0 (length os))
  step_again S U os now a s o h = let w = led _ _ _ h in by_end w.0 w.1 w.2
    where
      refused : (d : orders.Denial × ℕ) → batch_outcome S (Err d) ≡ (U, BatchDone a s) → ⊥
      refused d e = let k : Refused d.0 (Some d.1) ≡ BatchDone a s = ap (λ (o : Outcome). o.1) e in cc

      by_end : (r : Result Batched (orders.Denial × ℕ)) → batch S.trusted os now r → batch_outcome S r ≡ (U, BatchDone a s) → Steps U (Batch os) now (U, BatchDone 0 (length os))
      by_end (Ok B) k e =
          subst (λ (V : State). Steps V (Batch os) now (V, BatchDone 0 (length os))) (ap (λ (o : Outcome). o.0) e)
          (leads (Ok (so_far B.trusted 0 (length os))) (batch_again S.trusted os now B o k))
      by_end (Err d) k e = absurd (refused d e)

-- ---- and nothing else comes of it

one_end : (B C : Batched) → ◌≡◌ {A = Result Batched (orders.Denial × ℕ)} (Ok B) (Ok C) → B ≡ C
one_end B C e = cc

no_denial : (B : Batched) (d : orders.Denial × ℕ) → ◌≡◌ {A = Result Batched (orders.Denial × ℕ)} (Err d) (Ok B) → ⊥
no_denial B d e = cc

module _ (law : ListsOnce) (shapes : Shapes) where
  pub answers_again : (S : State) (os : List (Offer × Bytes)) (now : ℕ) (B : Batched) (r : Result code.Batched BatchRefusal) → IsInOrder os → batch S.trusted os now (Ok B)
      → AnswersBatch (with_trusted S B.trusted) (batch B.trusted os now) r → IsAllSame (with_trusted S B.trusted) (length os) r
  answers_again S os now B (Ok b) o h (done m e valid) =
      let same : record_of b ≡ so_far B.trusted 0 (length os) = one_end _ _ (batch-definite shapes B.trusted os now _ _ m (batch_again law S.trusted os now B o h)) in (
        ap (λ (C : Batched). C.accepted) same,
        ap (λ (C : Batched). C.same) same,
        e ∙ ap (λ (C : Batched). with_trusted S C.trusted) same,
      )
    where
      record_of : code.Batched → Batched
      record_of b = record { trusted = brought B.trusted (effects_view b.effects); accepted = b.accepted; same = b.same }
  answers_again S os now B (Err (refusals.Denied d i)) o h (denied m) =
      absurd (no_denial _ (denial_view d, i) (batch-definite shapes B.trusted os now _ _ m (batch_again law S.trusted os now B o h)))
  answers_again S os now B (Err refusals.OutOfMemory) o h undone = tt
