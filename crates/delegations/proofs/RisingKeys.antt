-- Keys that rise from one row to the next rise.
use Rattle.std.proofs.Common.{◌≡◌, suc, List, [], ◌∷◌, refl, arith, Bool, true}
use Rattle.std.specs.Prelude.{All, IsTrue, ◌↔◌}
use Rattle.std.proofs.lemmas.Bool.{and_parts, and_from}
use Rattle.std.proofs.lemmas.List.Elements.{All-nil, All-cons}
use Rattle.std.proofs.lemmas.List.Kept.{AllPairs-cons}
use Rattle.delegations.specs.Rows.{Rises}
use Rattle.delegations.specs.steps.Rising.{comes_first, rises}
use Rattle.delegations.proofs.KeyOrder.{Orders}

pub none_rise : {K A : Type 0} (below : K → K → Bool) → Rises {A = A} below []
none_rise below i j d h k = absurd (omega arith)

abbrev Above : {K A : Type 0} → (K → K → Bool) → K × A → K × A → Type 0
Above below a b = IsTrue (below a.0 b.0)

rises_by_steps : {K A : Type 0} (below same : K → K → Bool) → Orders below same → (rows : List (K × A)) → rises below rows ≡ true → Rises below rows
rises_by_steps below same o [] h = none_rise below
rises_by_steps {K} {A} below same o (row ∷ rows) h =
    let p = and_parts (comes_first below row.0 rows) (rises below rows) h in
    let rest = rises_by_steps below same o rows p.1 in
    AllPairs-cons (Above below) row rows (all_above row rows p.0 rest) rest
  where
    all_above : (row : K × A) (rows : List (K × A)) → comes_first below row.0 rows ≡ true → Rises below rows → All (Above below row) rows
    all_above row [] f r = All-nil (Above below row)
    all_above row (next ∷ rows) f r = All-cons (Above below row) next rows f
        (λ k d h. o.through row.0 next.0 _ f (r 0 (suc k) d (omega arith) (omega arith)))

steps_of_rises : {K A : Type 0} (below : K → K → Bool) (rows : List (K × A)) → Rises below rows → rises below rows ≡ true
steps_of_rises below [] r = refl
steps_of_rises below (row ∷ []) r = refl
steps_of_rises below (row ∷ next ∷ rows) r =
    and_from (below row.0 next.0) (rises below (next ∷ rows)) (r 0 1 next (omega arith) (omega arith))
    (steps_of_rises below (next ∷ rows) (λ i j d h k. r (suc i) (suc j) d (omega arith) (omega arith)))

pub rises_tells : {K A : Type 0} (below same : K → K → Bool) → Orders below same → (rows : List (K × A)) → (rises below rows ≡ true) ↔ (Rises below rows)
rises_tells below same o rows = (rises_by_steps below same o rows, steps_of_rises below rows)
