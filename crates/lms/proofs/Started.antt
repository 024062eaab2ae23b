-- The chains that a leaf's work starts with, as an array is filled with them.
use Rattle.std.proofs.Common.{◌≡◌, ℕ, zero, suc, ◌+◌, ◌-◌, ◌*◌, ◌<◌, ◌≤◌, List, [], ◌∷◌, ◌++◌, length, flat_map, map, sum, sum_by, take, drop, slice_set, bit_and, get_or, sym, ap, ◌∙◌, add-one, arith}
use Rattle.std.proofs.lemmas.List.{drop_more, map-append}
use Rattle.std.proofs.lemmas.Simd.{map-map}
use Rattle.std.proofs.lemmas.List.Sums.{sum-map}
use Rattle.std.proofs.lemmas.Nat.{and_le_l}
use Rattle.std.proofs.Math.ListN.{drop_of_length-le}
use Rattle.std.proofs.Math.Seq.{take-suc-set}
use Rattle.std.specs.List.{concat, range_with_len}
use Rattle.lms.specs.declared.OtsType.{OtsType}
use Rattle.lms.specs.declared.lanes.Chain.{Chain}
use Rattle.lms.specs.Parameters.{chain_count, chain_end}
use Rattle.lms.specs.Chains.{below, chain, chain_steps, coefficient, ends_from}
use Rattle.lms.specs.Keys.{derived, element}
use Rattle.lms.specs.steps.Lanes.{all_ends, all_left, cut_chain, cut_chains, element_chains, end_of, left, secret_chains, seed_chain}
use Rattle.lms.proofs.Counts.{count_small, end_small, sum_below}
use Rattle.lms.proofs.Nodes.{flat_is_concat}
use Rattle.lms.proofs.Runs.{range-add}

pub started_more : (g : ℕ → Chain) (cs : List Chain) (i k : ℕ) (x : Chain) → k ≡ i → i < length cs → x ≡ g i → take i cs ≡ map g (range_with_len 0 i)
    → take (i + 1) (slice_set cs k x) ≡ map g (range_with_len 0 (i + 1))
started_more g cs i k x at h e before =
    let front : take (suc i) (slice_set cs k x) ≡ map g (range_with_len 0 i) ++ (g i ∷ [])
    = ap (λ (j : ℕ). take (suc i) (slice_set cs j x)) at ∙ take-suc-set cs i x h
    ∙ ap (λ (c : Chain). take i cs ++ (c ∷ [])) e ∙ ap (λ (xs : List Chain). xs ++ (g i ∷ [])) before in
    let zero_plus : 0 + i ≡ i = omega arith in
    let back : map g (range_with_len 0 (i + 1)) ≡ map g (range_with_len 0 i) ++ (g i ∷ [])
    = ap (map g) (range-add 0 i 1) ∙ map-append g (range_with_len 0 i) (range_with_len (0 + i) 1) ∙ ap (λ (j : ℕ). map g (range_with_len 0 i) ++ (g j ∷ [])) zero_plus in
    rw add-one front ∙ sym back

-- the steps that are left to the chains of a signature
pub cut_left : (ots : OtsType) (hash : List ℕ) (elements : List (List ℕ)) → length elements ≡ chain_count ots → all_left (cut_chains ots hash elements) ≡ chain_steps ots hash
cut_left ots hash elements n =
    let g = cut_chain ots hash elements in
    sym (sum-map left (cut_chains ots hash elements))
    ∙ ap sum (map-map left g (below (length elements)))
    ∙ ap (λ (k : ℕ). sum (map (λ i. chain_end ots - coefficient ots hash i) (below k))) n

ends_at : (ots : OtsType) (identifier : List ℕ) (q : ℕ) (hash : List ℕ) (ys : List (List ℕ)) (i n : ℕ) → i + n ≡ length ys
    → concat (map (λ k. chain identifier q k (coefficient ots hash k) (chain_end ots) (get_or ys k [])) (range_with_len i n)) ≡ ends_from ots identifier q hash i (drop i ys)
ends_at ots identifier q hash ys i zero h =
    sym (ap (ends_from ots identifier q hash i) (drop_of_length-le ys (omega arith)))
ends_at ots identifier q hash ys i (suc n) h =
    let end = chain identifier q i (coefficient ots hash i) (chain_end ots) (get_or ys i []) in
    ap (λ (xs : List ℕ). end ++ xs) (ends_at ots identifier q hash ys (i + 1) n (omega arith))
    ∙ sym (ap (ends_from ots identifier q hash i) (drop_more ys i [] (omega arith)))

-- the ends of the chains of a signature
pub cut_ends : (ots : OtsType) (identifier : List ℕ) (q : ℕ) (hash : List ℕ) (elements : List (List ℕ))
    → all_ends identifier q (cut_chains ots hash elements) ≡ ends_from ots identifier q hash 0 elements
cut_ends ots identifier q hash elements =
    ap concat (map-map (end_of identifier q) (cut_chain ots hash elements) (below (length elements)))
    ∙ ends_at ots identifier q hash elements 0 (length elements) (omega arith)

-- chains that take at most 255 steps each take few enough
few_left : (g : ℕ → Chain) → ((i : ℕ) → left (g i) ≤ 255) → (n : ℕ) → all_left (map g (below n)) ≤ n * 255
few_left g h n =
    let f : ℕ → ℕ = λ i. left (g i) in
    let e : all_left (map g (below n)) ≡ sum_by f (below n) = sym (sum-map left (map g (below n))) ∙ ap sum (map-map left g (below n)) ∙ sum-map f (below n) in
    omega (arith, e, sum_below f 255 h 0 n)

masked_small : (ots : OtsType) (b : ℕ) → bit_and (chain_end ots) b ≤ 255
masked_small ots b = omega (arith, and_le_l (chain_end ots) b, end_small ots)

coefficient_small : (ots : OtsType) (hash : List ℕ) (i : ℕ) → coefficient ots hash i ≤ 255
coefficient_small ots hash i = masked_small ots _

module _ (ots : OtsType) (identifier secret : List ℕ) (q : ℕ) where
  pub secret_left : all_left (secret_chains ots identifier secret q) ≤ 67575
  secret_left =
      let most = few_left (λ i. seed_chain identifier secret q (chain_end ots) i) (λ i. omega (arith, end_small ots)) (chain_count ots) in
      omega (arith, most, count_small ots)

  -- the ends of a leaf's chains
  pub secret_ends : all_ends identifier q (secret_chains ots identifier secret q)
      ≡ flat_map (λ i. chain identifier q i 0 (chain_end ots) (derived identifier secret q i)) (below (chain_count ots))
  secret_ends =
      ap concat (map-map (end_of identifier q) (λ i. seed_chain identifier secret q (chain_end ots) i) (below (chain_count ots)))
      ∙ sym (flat_is_concat (λ i. chain identifier q i 0 (chain_end ots) (derived identifier secret q i)) (below (chain_count ots)))

  pub element_left : (hash : List ℕ) → all_left (element_chains ots identifier secret q hash) ≤ 67575
  element_left hash =
      let most = few_left (λ i. seed_chain identifier secret q (coefficient ots hash i) i) (λ i. omega (arith, coefficient_small ots hash i)) (chain_count ots) in
      omega (arith, most, count_small ots)

  -- the elements of a signature of the leaf
  pub element_ends : (hash : List ℕ) → all_ends identifier q (element_chains ots identifier secret q hash)
      ≡ concat (map (element ots identifier secret q hash) (below (chain_count ots)))
  element_ends hash =
      ap concat (map-map (end_of identifier q) (λ i. seed_chain identifier secret q (coefficient ots hash i) i) (below (chain_count ots)))
