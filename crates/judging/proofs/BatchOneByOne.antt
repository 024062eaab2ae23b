-- A batch goes on after each document.
use Rattle.std.proofs.Common.{◌≡◌, ℕ, zero, suc, ◌+◌, ◌<◌, Bool, true, false, cond, not, List, [], ◌∷◌, length, drop, slice_index_or, Result, Ok, Err, refl, sym, ap, ◌∙◌, subst, arith, ◌≤◌, Bor}
use Rattle.metadata.specs.File.{Bytes}
use Rattle.denials.specs.Orders as orders
use Rattle.denials.specs.Orders.{judges}
use Rattle.trust_rules.specs.State.{Trusted, State}
use Rattle.trust_rules.specs.Offers as commands
use Rattle.trust_rules.specs.Offers.{Ended, batch_from, batch, offer}
use Rattle.trusted_state.specs.Answers.{AnswersBatch, denied, undone}
use Rattle.trusted_state.specs.steps.Judging.{Ends, takes, stays, ends, gives_up, IsDeniedAt, IsRefusedAt}
use Rattle.denials.specs.Views.{denial_view}
use Rattle.trusted_state.specs.Views.{documents_view}
use Rattle.trusted_state.specs.declared.outcome.Offer.{Offer}
use Rattle.trusted_state.specs.declared.refusal.Refusal.{Refusal}
use Rattle.trusted_state.specs.declared.refusal.Refusal.TheVariants.{Denied, OutOfMemory}
use Rattle.trusted_state.specs.declared.refusal.BatchRefusal.{BatchRefusal}
use Rattle.trusted_state.specs.declared.refusal.BatchRefusal.TheVariants as batches

abbrev pub so_far : Trusted → ℕ → ℕ → commands.Batched
so_far T a s = record { trusted = T; accepted = a; same = s }

abbrev pub Outcome : Type 0
Outcome = Result commands.Batched (orders.Denial × ℕ)

moved : (U : Trusted) (a b s t i j : ℕ) (os : List (commands.Offer × Bytes)) (now : ℕ) (r : Outcome) → a ≡ b → s ≡ t → i ≡ j
    → batch_from (so_far U a s) i os now r → batch_from (so_far U b t) j os now r
moved U a b s t i j os now r e f g h =
    subst (λ (n : ℕ). batch_from (so_far U n t) j os now r) e (subst (λ (n : ℕ). batch_from (so_far U a n) j os now r) f (subst (λ (n : ℕ). batch_from (so_far U a s) n os now r) g h))

-- after a document that was taken, or was there
pub counted_on : (T U : Trusted) (a s i b t j : ℕ) (o : commands.Offer × Bytes) (os : List (commands.Offer × Bytes)) (now : ℕ) (is : Bool) (r : Outcome)
    → b ≡ a + cond is 1 0 → t ≡ s + cond (not is) 1 0 → j ≡ i + 1
    → Ends (offer T o.0 o.1 now) T U (Ok is) → batch_from (so_far U b t) j os now r → batch_from (so_far T a s) i (o ∷ os) now r
counted_on T U a s i b t j o os now true r e f g (takes k) h = judges k (moved U b (suc a) t s j (suc i) os now r (omega (arith, e)) (omega (arith, f)) (omega (arith, g)) h)
counted_on T U a s i b t j o os now false r e f g (stays k is) h =
    judges k (subst (λ (V : Trusted). batch_from (so_far V a (suc s)) (suc i) os now r) is (moved U b a t (suc s) j (suc i) os now r (omega (arith, e)) (omega (arith, f)) (omega (arith, g)) h))

-- at a document that is denied
pub denied_here : (T U : Trusted) (a s i : ℕ) (o : commands.Offer × Bytes) (os : List (commands.Offer × Bytes)) (now : ℕ) (refusal : Refusal) (at : BatchRefusal) (m : Outcome → Type 0)
    → Ends (offer T o.0 o.1 now) T U (Err refusal) → IsRefusedAt refusal i at → ((r : Outcome) → batch_from (so_far T a s) i (o ∷ os) now r → m r) → IsDeniedAt m at
denied_here T U a s i o os now (Denied d) at m (ends g) is onward = subst (λ x. IsDeniedAt m x) (sym is) (onward (Err (denial_view d, i)) (judges g refl))
denied_here T U a s i o os now OutOfMemory at m gives_up is onward = subst (λ x. IsDeniedAt m x) (sym is) tt

-- the documents from a place on
from_suc : {A : Type 0} (xs : List A) (k : ℕ) (d : A) → k < length xs → drop k xs ≡ slice_index_or xs k d ∷ drop (suc k) xs
from_suc [] k d lt = absurd (omega arith)
from_suc (x ∷ []) zero d lt = refl
from_suc (x ∷ y ∷ xs) zero d lt = refl
from_suc (x ∷ xs) (suc k) d lt = from_suc xs k d (omega arith)

pub from_here : {A : Type 0} (xs : List A) (k : ℕ) (d : A) → k < length xs → drop k xs ≡ slice_index_or xs k d ∷ drop (k + 1) xs
from_here xs k d lt = let next : suc k ≡ k + 1 = omega arith in from_suc xs k d lt ∙ ap (λ (n : ℕ). slice_index_or xs k d ∷ drop n xs) next

pub none_left : {A : Type 0} (xs : List A) → drop (length xs) xs ≡ []
none_left [] = refl
none_left (x ∷ xs) = none_left xs

pub at_most_one_more : {a i n : ℕ} (b : Bool) → a ≤ i → n ≡ cond b 1 0 → a + n ≤ i + 1
at_most_one_more true le e = omega (arith, le, e)
at_most_one_more false le e = omega (arith, le, e)

-- at the end of the documents
pub ended_there : (ds : List (Offer × Bor (List ℕ))) (T : Trusted) (a s i now : ℕ) (r : Outcome) → i ≡ length ds → Ended (so_far T a s) (length ds) r
    → batch_from (so_far T a s) i (documents_view (drop i ds)) now r
ended_there ds T a s i now r e h =
    subst (λ (n : ℕ). batch_from (so_far T a s) n (documents_view (drop n ds)) now r) (sym e)
    (subst (λ (l : List (Offer × Bor (List ℕ))). batch_from (so_far T a s) (length ds) (documents_view l) now r) (sym (none_left ds)) h)

pub batch_refused : (S : State) {m : Outcome → Type 0} (refusal : BatchRefusal) → IsDeniedAt m refusal → AnswersBatch S m (Err refusal)
batch_refused S (batches.Denied d i) h = denied h
batch_refused S batches.OutOfMemory h = undone
