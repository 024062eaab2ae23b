-- Rows in the order of their keys, and one more.
use Rattle.std.proofs.Common.{◌≡◌, suc, List, [], ◌∷◌, length, refl, ap, arith, Bool}
use Rattle.std.specs.Prelude.{All, IsTrue, IsNone}
use Rattle.std.proofs.lemmas.Bool.{true≢false}
use Rattle.std.proofs.lemmas.List.Elements.{All-nil, All-cons, All-head, All-tail, All-weaker}
use Rattle.std.proofs.lemmas.List.Kept.{AllPairs-cons}
use Rattle.delegations.specs.Rows.{value_at, with_row, Rises}
use Rattle.delegations.proofs.ByHalves.{rest_rises}
use Rattle.delegations.proofs.KeyOrder.{Orders}
use Rattle.delegations.proofs.Walk.{by_test}

pub all_with_row : {K A : Type 0} (P : K × A → Type 0) (below : K → K → Bool) (rows : List (K × A)) (key : K) (value : A)
    → P (key, value) → All P rows → All P (with_row below rows key value)
all_with_row P below [] key value new all = All-cons P (key, value) [] new all
all_with_row {K} {A} P below (row ∷ rows) key value new all = by_test (below key row.0)
    (λ t. rw t (All-cons P (key, value) (row ∷ rows) new all))
    (λ f. rw f (All-cons P row (with_row below rows key value) (All-head P row rows all) (all_with_row P below rows key value new (All-tail P row rows all))))

pub length_with_row : {K A : Type 0} (below : K → K → Bool) (rows : List (K × A)) (key : K) (value : A)
    → length (with_row below rows key value) ≡ suc (length rows)
length_with_row below [] key value = refl
length_with_row below (row ∷ rows) key value = by_test (below key row.0)
    (λ t. rw t refl)
    (λ f. rw f (ap suc (length_with_row below rows key value)))

abbrev Above : {K A : Type 0} → (K → K → Bool) → K × A → K × A → Type 0
Above below a b = IsTrue (below a.0 b.0)

first_below : {K A : Type 0} (below : K → K → Bool) (row : K × A) (rows : List (K × A)) → Rises below (row ∷ rows) → All (Above below row) rows
first_below below row rows r k d h = r 0 (suc k) d (omega arith) (omega arith)

pub rises_with_row : {K A : Type 0} (below same : K → K → Bool) → Orders below same → (rows : List (K × A)) (key : K) (value : A)
    → Rises below rows → IsNone (value_at same rows key) → Rises below (with_row below rows key value)
rises_with_row {K} {A} below same o [] key value r none =
    AllPairs-cons (Above below) (key, value) [] (All-nil (Above below (key, value))) r
rises_with_row {K} {A} below same o (row ∷ rows) key value r none = by_test (below key row.0)
    (λ t. rw t (AllPairs-cons (Above below) (key, value) (row ∷ rows)
    (All-cons (Above below (key, value)) row rows t
    (All-weaker (Above below row) (Above below (key, value)) (λ x h. o.through key row.0 x.0 t h) rows (first_below below row rows r))) r))
    (λ f. by_test (same row.0 key)
    (λ s. absurd (true≢false (rw s at none)))
    (λ s. rw f (AllPairs-cons (Above below) row (with_row below rows key value)
    (all_with_row (Above below row) below rows key value (o.else key row.0 f s) (first_below below row rows r))
    (rises_with_row below same o rows key value (rest_rises below row rows r) (rw s at none)))))
