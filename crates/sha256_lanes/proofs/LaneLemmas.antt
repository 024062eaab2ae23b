-- What holds of each lane of a vector.
use Rattle.std.proofs.Common.{◌≡◌, ℕ, zero, suc, ◌<◌, ◌-◌, ◌*◌, ◌/◌, ◌%◌, ◌^◌, ◌∙◌, List, [], ◌∷◌, length, slice_index, slice_index_or, slice_set, bit_or, arith, refl, ap}
use Rattle.std.proofs.lemmas.List.{get_or-map, map-set, length-map}
use Rattle.sha256_lanes.specs.steps.Lanes.{lane_at, column}
use Rattle.std.specs.Simd.Lanes.{zip2}
use Rattle.std.specs.Int.{w32, rotate_right}

pub below_four : (P : ℕ → Type 0) → P 0 → P 1 → P 2 → P 3 → (j : ℕ) → j < 4 → P j
below_four P p0 p1 p2 p3 zero h = p0
below_four P p0 p1 p2 p3 (suc zero) h = p1
below_four P p0 p1 p2 p3 (suc (suc zero)) h = p2
below_four P p0 p1 p2 p3 (suc (suc (suc zero))) h = p3
below_four P p0 p1 p2 p3 (suc (suc (suc (suc n)))) h = absurd (omega arith)

-- what holds of each list of four elements
pub four_lanes : {A : Type 0} → (P : List A → Type 0) → ((a b c d : A) → P (a ∷ b ∷ c ∷ d ∷ [])) → (xs : List A) → length xs ≡ 4 → P xs
four_lanes P p (a ∷ b ∷ c ∷ d ∷ []) h = p a b c d
four_lanes P p [] h = absurd (omega arith)
four_lanes P p (a ∷ []) h = absurd (omega arith)
four_lanes P p (a ∷ b ∷ []) h = absurd (omega arith)
four_lanes P p (a ∷ b ∷ c ∷ []) h = absurd (omega arith)
four_lanes P p (a ∷ b ∷ c ∷ d ∷ e ∷ xs) h = absurd (omega arith)

-- two shifts of each lane and an or are a rotation
abbrev Rotates : ℕ → List ℕ → Type 0
Rotates k a = (j : ℕ) → j < 4
    → slice_index (zip2 bit_or
    (zip2 (λ x n. x / 2 ^ n) a (k ∷ k ∷ k ∷ k ∷ []))
    (zip2 (λ x n. x * 2 ^ n % 2 ^ 32) a ((32 - k) ∷ (32 - k) ∷ (32 - k) ∷ (32 - k) ∷ []))) j
    ≡ rotate_right w32 (slice_index a j) k

pub shifts_rotate : (k : ℕ) → 0 < k → k < 32 → (a : List ℕ) → length a ≡ 4 → Rotates k a
shifts_rotate k low high =
    let left : k % 32 ≡ k = omega arith in
    let right : (32 - k) % 32 ≡ 32 - k = omega arith in
    four_lanes (Rotates k) (λ a0 a1 a2 a3.
    below_four _ (rw (left, right) refl) (rw (left, right) refl) (rw (left, right) refl) (rw (left, right) refl))

pub shifts_right : (k : ℕ) → k < 32 → (a : List ℕ) → length a ≡ 4 → (j : ℕ) → j < 4
    → slice_index (zip2 (λ x n. x / 2 ^ n) a (k ∷ k ∷ k ∷ k ∷ [])) j ≡ slice_index a j / 2 ^ k
shifts_right k high =
    four_lanes (λ a. (j : ℕ) → j < 4 → slice_index (zip2 (λ x n. x / 2 ^ n) a (k ∷ k ∷ k ∷ k ∷ [])) j ≡ slice_index a j / 2 ^ k) (λ a0 a1 a2 a3.
    below_four _ refl refl refl refl)

-- a word of a column
pub column_at : (w : List (List ℕ)) (j k : ℕ) → k < length w → slice_index (column j w) k ≡ lane_at w k j
column_at w j k h = get_or-map (λ (v : List ℕ). slice_index v j) w k [] 0 h

-- a column with one word replaced
pub column_set : (w next : List (List ℕ)) (j k : ℕ) (v : List ℕ) → next ≡ slice_set w k v → column j next ≡ slice_set (column j w) k (slice_index v j)
column_set w next j k v e = ap (column j) e ∙ map-set (λ (v : List ℕ). slice_index v j) w k v

pub column_length : (w : List (List ℕ)) (j : ℕ) → length (column j w) ≡ length w
column_length w j = length-map w (λ (v : List ℕ). slice_index v j)

-- a list of four by its elements
pub four_of : {A : Type 0} → (d : A) (xs : List A) → length xs ≡ 4
    → slice_index_or xs 0 d ∷ slice_index_or xs 1 d ∷ slice_index_or xs 2 d ∷ slice_index_or xs 3 d ∷ [] ≡ xs
four_of d = four_lanes (λ xs. slice_index_or xs 0 d ∷ slice_index_or xs 1 d ∷ slice_index_or xs 2 d ∷ slice_index_or xs 3 d ∷ [] ≡ xs) (λ a0 a1 a2 a3. refl)
