-- Every command but a single offer leaves a state coherent that was.
use Rattle.std.proofs.Common.{◌≡◌, ℕ, suc, List, [], ◌∷◌, refl, sym, subst}
use Rattle.std.specs.Prelude.{Result, Ok, Err, IfOk}
use Rattle.metadata.specs.File.{Bytes}
use Rattle.denials.specs.Orders.{Judged, Denial, Denied, Same, pass, decide, given, judges}
use Rattle.trust_rules.specs.State.{Trusted, State, IsCoherent}
use Rattle.trust_rules.specs.Offers.{Offer, Batched, BatchOrder, coherent, incoherent, going_on, batch_from, init, put_blob}
use Rattle.trust_rules.proofs.PrunedStates.{prune_coherent}
use Rattle.trust_rules.specs.Runs.{Init, Batch, OfferOne, PutBlob, Prune, Metadata, Target, Reply, Outcome, settled, batch_outcome, Leads, leads, StaysCoherent}

abbrev IfCoherent : Judged State → Type 0
IfCoherent j = IfOk j (λ S. IsCoherent S.trusted)

-- ---- a beginning, a blob

init-coherent : (S : State) (b : Bytes) (j : Judged State) → init S b j → IfCoherent j
init-coherent S b _ (decide h) = tt
init-coherent S b _ (pass h (decide k)) = tt
init-coherent S b _ (pass h (pass k (decide l))) = tt
init-coherent S b _ (pass h (pass k (pass l given))) = tt

put-coherent : (S : State) (digest b : Bytes) → IsCoherent S.trusted → (j : Judged State) → put_blob S digest b j → IfCoherent j
put-coherent S digest b c _ (decide h) = tt
put-coherent S digest b c _ (pass h (decide k)) = tt
put-coherent S digest b c _ (pass h (pass k (decide l))) = tt
put-coherent S digest b c _ (pass h (pass k (pass l (decide m)))) = tt
put-coherent S digest b c _ (pass h (pass k (pass l (pass m (decide n))))) = tt
put-coherent S digest b c _ (pass h (pass k (pass l (pass m (pass n given))))) = c

-- ---- batches

abbrev IfBatched : Result Batched (Denial × ℕ) → Type 0
IfBatched r = IfOk r (λ B. IsCoherent B.trusted)

going-coherent : (B : Batched) (i : ℕ) (go : Batched → BatchOrder) → ((C : Batched) (r : Result Batched (Denial × ℕ)) → go C r → IfBatched r)
    → (j : Judged Trusted) (r : Result Batched (Denial × ℕ)) → going_on B i go j r → IfBatched r
going-coherent B i go each (Ok T) r h = each _ r h
going-coherent B i go each (Err Same) r h = each _ r h
going-coherent B i go each (Err (Denied d)) r h = subst IfBatched (sym h) tt

batch-coherent : (B : Batched) (i : ℕ) (os : List (Offer × Bytes)) (now : ℕ) (r : Result Batched (Denial × ℕ)) → batch_from B i os now r → IfBatched r
batch-coherent B i [] now _ (coherent p) = p
batch-coherent B i [] now _ (incoherent p) = tt
batch-coherent B i (o ∷ os) now r (judges {j} h k) = going-coherent B i _ (λ C q g. batch-coherent C (suc i) os now q g) j r k

batched-coherent : (S : State) (j : Result Batched (Denial × ℕ)) → IsCoherent S.trusted → IfBatched j → IsCoherent (batch_outcome S j).0.trusted
batched-coherent S (Ok B) c h = h
batched-coherent S (Err d) c h = c

-- ---- all of them

pub led : {A : Type 0} (m : A → Type 0) (out : A → Outcome) (o : Outcome) → Leads m out o → (j : A) × m j × (out j ≡ o)
led m out _ (leads j h) = (j, h, refl)

settled-coherent : {A : Type 0} (S : State) (done : A → Outcome) (same : Reply) (j : Judged A)
    → IsCoherent S.trusted → ((a : A) → j ≡ Ok a → IsCoherent (done a).0.trusted) → IsCoherent (settled S done same j).0.trusted
settled-coherent S done same (Ok a) c k = k a refl
settled-coherent S done same (Err Same) c k = c
settled-coherent S done same (Err (Denied d)) c k = c

abbrev Kept : Outcome → Type 0
Kept o = IsCoherent o.0.trusted

by_change : (S : State) (m : Judged State → Type 0) (done : State → Outcome) (same : Reply) (o : Outcome)
    → ((T : State) → (done T).0 ≡ T) → IsCoherent S.trusted → ((j : Judged State) → m j → IfCoherent j) → Leads m (settled S done same) o → Kept o
by_change S m done same o is c each h =
    let w = led m (settled S done same) o h in
    subst Kept w.2 (settled-coherent S done same w.0 c
    (λ T e. subst (λ (U : State). IsCoherent U.trusted) (sym (is T)) (subst IfCoherent e (each w.0 w.1))))

pub stays_coherent : StaysCoherent
stays_coherent S T (Init b) now reply u c h = by_change S _ _ _ _ (λ T. refl) c (init-coherent S b) h
stays_coherent S T (Batch os) now reply u c h =
    let w = led _ _ _ h in subst Kept w.2 (batched-coherent S w.0 c (batch-coherent _ 0 os now w.0 w.1))
stays_coherent S T (OfferOne o b) now reply u c h = absurd (u tt)
stays_coherent S T (PutBlob digest b) now reply u c h = by_change S _ _ _ _ (λ T. refl) c (put-coherent S digest b c) h
stays_coherent S T Prune now reply u c h = by_change S _ _ _ _ (λ T. refl) c (prune_coherent S c) h
stays_coherent S T (Metadata name) now reply u c h = subst Kept (sym h) c
stays_coherent S T (Target path asked) now reply u c h =
    let w = led _ _ _ h in subst Kept w.2 (settled-coherent S _ _ w.0 c (λ a e. c))
