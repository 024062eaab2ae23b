-- Bounds of the parameter sets.
use Rattle.std.proofs.Common.{◌≡◌, ℕ, ◌+◌, ◌-◌, ◌*◌, ◌/◌, ◌^◌, ◌<◌, ◌≤◌, List, sum, map, arith, zero, suc, refl, sym, ap, ◌∙◌, sum_by}
use Rattle.std.proofs.Math.Nat.{mul-le-mul}
use Rattle.std.specs.List.{range_with_len}
use Rattle.std.proofs.lemmas.List.Sums.{sum-map, sum_by-cons}
use Rattle.lms.specs.declared.OtsType.{OtsType}
use Rattle.lms.specs.declared.OtsType.TheVariants.{W1, W2, W4, W8}
use Rattle.lms.specs.declared.LmsType.{LmsType}
use Rattle.lms.specs.declared.LmsType.TheVariants.{H5, H10, H15, H20, H25}
use Rattle.lms.specs.Chains.{chain_steps, coefficient}
use Rattle.lms.specs.Parameters.{width, chain_count, chain_end, checksum_shift, height}

pub end_small : (ots : OtsType) → chain_end ots ≤ 255
end_small W1 = omega arith
end_small W2 = omega arith
end_small W4 = omega arith
end_small W8 = omega arith

pub width_small : (ots : OtsType) → (1 ≤ width ots) × (width ots ≤ 8)
width_small W1 = (omega arith, omega arith)
width_small W2 = (omega arith, omega arith)
width_small W4 = (omega arith, omega arith)
width_small W8 = (omega arith, omega arith)

pub count_small : (ots : OtsType) → chain_count ots ≤ 265
count_small W1 = omega arith
count_small W2 = omega arith
count_small W4 = omega arith
count_small W8 = omega arith

-- each coefficient lies within the hash with its checksum
pub coefficient_fits : (ots : OtsType) (i : ℕ) → i < chain_count ots → i * width ots / 8 < 34
coefficient_fits W1 i h = omega arith
coefficient_fits W2 i h = omega arith
coefficient_fits W4 i h = omega arith
coefficient_fits W8 i h = omega arith

-- each coefficient that is summed lies within the hash
pub summed_fits : (ots : OtsType) (i : ℕ) → i < 256 / width ots → (i < 256) × (i * width ots / 8 < 32)
summed_fits W1 i h = (omega arith, omega arith)
summed_fits W2 i h = (omega arith, omega arith)
summed_fits W4 i h = (omega arith, omega arith)
summed_fits W8 i h = (omega arith, omega arith)

pub steps_small : (ots : OtsType) (i n : ℕ) → i ≤ n → i * chain_end ots ≤ n * 255
steps_small ots i n h = mul-le-mul h (end_small ots)

-- a checksum loses no bit when it is shifted
pub checksum_fits : (ots : OtsType) (s : ℕ) → s ≤ 256 / width ots * chain_end ots → s * 2 ^ checksum_shift ots < 2 ^ 16
checksum_fits W1 s h = omega arith
checksum_fits W2 s h = omega arith
checksum_fits W4 s h = omega arith
checksum_fits W8 s h = omega arith

-- one more of a sum over the numbers up to n
pub sum_step : (f : ℕ → ℕ) (i n : ℕ) → i < n → sum (map f (range_with_len i (n - i))) ≡ f i + sum (map f (range_with_len (i + 1) (n - (i + 1))))
sum_step f i n h =
    let e : n - i ≡ suc (n - (i + 1)) = omega arith in
    let rest = range_with_len (i + 1) (n - (i + 1)) in
    sum-map f (range_with_len i (n - i)) ∙ ap (λ (k : ℕ). sum_by f (range_with_len i k)) e ∙ sum_by-cons f i rest ∙ ap (λ (s : ℕ). f i + s) (sym (sum-map f rest))

pub sum_more : (f : ℕ → ℕ) (i n s d total : ℕ) → i < n → d ≡ f i → s + sum (map f (range_with_len i (n - i))) ≡ total
    → (s + d) + sum (map f (range_with_len (i + 1) (n - (i + 1)))) ≡ total
sum_more f i n s d total h e g = omega (arith, sum_step f i n h)

pub sum_done : (f : ℕ → ℕ) (i n s total : ℕ) → n ≤ i → s + sum (map f (range_with_len i (n - i))) ≡ total → s ≡ total
sum_done f i n s total h g =
    let e : n - i ≡ 0 = omega arith in
    let none : sum (map f (range_with_len i (n - i))) ≡ 0 = rw e refl in
    omega arith

pub height_small : (lms : LmsType) → height lms ≤ 25
height_small H5 = omega arith
height_small H10 = omega arith
height_small H15 = omega arith
height_small H20 = omega arith
height_small H25 = omega arith

pub sum_below : (f : ℕ → ℕ) (b : ℕ) → ((i : ℕ) → f i ≤ b) → (i n : ℕ) → sum_by f (range_with_len i n) ≤ n * b
sum_below f b h i zero = omega arith
sum_below f b h i (suc n) =
    let rest = sum_below f b h (i + 1) n in
    let here = h i in
    let cut = sum_by-cons f i (range_with_len (i + 1) n) in
    let product : suc n * b ≡ n * b + b = omega arith in
    omega (arith, rest, here, cut, product)

-- the chains take no more steps than each from its first number to its last
pub chain_steps_most : (ots : OtsType) (hash : List ℕ) → chain_steps ots hash ≤ chain_count ots * chain_end ots
chain_steps_most ots hash =
    let f : ℕ → ℕ = λ i. chain_end ots - coefficient ots hash i in
    let e = sum-map f (range_with_len 0 (chain_count ots)) in
    let b = sum_below f (chain_end ots) (λ i. omega arith) 0 (chain_count ots) in
    omega (arith, e, b)

chains_most : (ots : OtsType) → chain_count ots * chain_end ots ≤ 8670
chains_most W1 = omega arith
chains_most W2 = omega arith
chains_most W4 = omega arith
chains_most W8 = omega arith

pub chain_steps_small : (ots : OtsType) (hash : List ℕ) → chain_steps ots hash ≤ 8670
chain_steps_small ots hash = omega (arith, chain_steps_most ots hash, chains_most ots)
