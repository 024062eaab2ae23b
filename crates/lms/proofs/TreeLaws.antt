-- The siblings of a leaf lead from its hash to the root.
use Rattle.std.proofs.Common.{◌≡◌, ℕ, zero, suc, ◌+◌, ◌*◌, ◌/◌, ◌%◌, ◌^◌, ◌<◌, List, [], ◌∷◌, ◌==◌, true, false, ◌⊎◌, inl, inr, refl, sym, ap, ◌∙◌, arith, bit_and, bit_xor, ◌≢◌, map, div-one}
use Rattle.std.specs.List.{range_with_len}
use Rattle.std.specs.Int.Bits.{xor_add_and}
use Rattle.std.proofs.lemmas.Nat.{and_mask, shr-shr, div-mul-add}
use Rattle.std.proofs.lemmas.Bool.Decides.{eqb_tells}
use Rattle.lms.specs.declared.OtsType.{OtsType}
use Rattle.lms.specs.Tree.{inner_hash, parent_hash, root_over}
use Rattle.lms.specs.declared.LmsType.{LmsType}
use Rattle.lms.specs.Parameters.{height}
use Rattle.lms.specs.Chains.{below}
use Rattle.lms.specs.Keys.{node_hash, tree_hash, path_hash}

-- the number that differs in the last bit alone
pub xor_one : (n : ℕ) → bit_xor n 1 + 2 * (n % 2) ≡ n + 1
xor_one n =
    let low : bit_and n 1 ≡ n % 2 = and_mask n 1 in
    let both = xor_add_and n 1 in
    omega arith

module _ (ots : OtsType) (identifier secret : List ℕ) (leaves : ℕ) where
  abbrev hash_at : ℕ → ℕ → List ℕ
  hash_at levels node = node_hash ots identifier secret leaves levels node

  pair_is : (levels node left right : ℕ) → left ≡ 2 * (node / 2) → right ≡ 2 * (node / 2) + 1
      → inner_hash identifier (node / 2) (hash_at levels left) (hash_at levels right) ≡ hash_at (suc levels) (node / 2)
  pair_is levels node left right e f = rw (e, f) refl

  -- a node and its sibling make their parent
  parent_is : (levels node : ℕ) → parent_hash identifier node (hash_at levels node) (hash_at levels (bit_xor node 1)) ≡ hash_at (suc levels) (node / 2)
  parent_is levels node = by_side (eqb_tells (node % 2) 1)
    where
      by_side : ((node % 2 == 1 ≡ true) × (node % 2 ≡ 1)) ⊎ ((node % 2 == 1 ≡ false) × (node % 2 ≢ 1))
          → parent_hash identifier node (hash_at levels node) (hash_at levels (bit_xor node 1)) ≡ hash_at (suc levels) (node / 2)
      by_side (inl p) =
          let odd = p.1 in
          let x = xor_one node in
          let left : bit_xor node 1 ≡ 2 * (node / 2) = omega arith in
          let right : node ≡ 2 * (node / 2) + 1 = omega arith in
          rw p.0 (pair_is levels node (bit_xor node 1) node left right)
      by_side (inr p) =
          let even : node % 2 ≡ 0 = omega (arith, p.1) in
          let x = xor_one node in
          let left : node ≡ 2 * (node / 2) = omega arith in
          let right : bit_xor node 1 ≡ 2 * (node / 2) + 1 = omega arith in
          rw p.0 (pair_is levels node node (bit_xor node 1) left right)

  -- the siblings of a node and of the n - 1 nodes above it
  abbrev pub siblings : ℕ → ℕ → ℕ → List (List ℕ)
  siblings levels node zero = []
  siblings levels node (suc n) = hash_at levels (bit_xor node 1) ∷ siblings (suc levels) (node / 2) n

  -- the node so many levels above
  abbrev pub above : ℕ → ℕ → ℕ
  above node zero = node
  above node (suc n) = above (node / 2) n

  pub climbs : (levels node n : ℕ) → root_over identifier node (hash_at levels node) (siblings levels node n) ≡ hash_at (levels + n) (above node n)
  climbs levels node zero =
      let e : levels + 0 ≡ levels = omega arith in
      rw e refl
  climbs levels node (suc n) =
      let e : levels + suc n ≡ suc levels + n = omega arith in
      ap (λ (t : List ℕ). root_over identifier (node / 2) t (siblings (suc levels) (node / 2) n)) (parent_is levels node)
      ∙ climbs (suc levels) (node / 2) n ∙ ap (λ (k : ℕ). hash_at k (above (node / 2) n)) (sym e)

  above_is : (node n : ℕ) → above node n ≡ node / 2 ^ n
  above_is node zero = sym (div-one node)
  above_is node (suc n) =
      let e : 1 + n ≡ suc n = omega arith in
      above_is (node / 2) n ∙ shr-shr node 1 n ∙ ap (λ (k : ℕ). node / 2 ^ k) e

  path_from : (node start n : ℕ)
      → map (λ i. hash_at i (bit_xor (node / 2 ^ i) 1)) (range_with_len start n) ≡ siblings start (node / 2 ^ start) n
  path_from node start zero = refl
  path_from node start (suc n) =
      let next : start + 1 ≡ suc start = omega arith in
      let halved : node / 2 ^ (start + 1) ≡ node / 2 ^ start / 2 = sym (shr-shr node start 1) in
      ap (λ (xs : List (List ℕ)). hash_at start (bit_xor (node / 2 ^ start) 1) ∷ xs)
      (path_from node (start + 1) n
      ∙ ap (λ (m : ℕ). siblings (start + 1) m n) halved
      ∙ ap (λ (k : ℕ). siblings k (node / 2 ^ start / 2) n) next)

root_above : (leaves q : ℕ) → q < leaves → (leaves + q) / leaves ≡ 1
root_above leaves q h =
    let e : leaves + q ≡ 1 * leaves + q = omega arith in
    ap (λ (k : ℕ). k / leaves) e ∙ div-mul-add 1 leaves q h

-- the path of a leaf leads from its hash to the root
pub path_leads : (lms : LmsType) (ots : OtsType) (identifier secret : List ℕ) (q : ℕ) → q < 2 ^ height lms
    → root_over identifier (2 ^ height lms + q) (tree_hash lms ots identifier secret 0 (2 ^ height lms + q)) (map (path_hash lms ots identifier secret q) (below (height lms)))
    ≡ tree_hash lms ots identifier secret (height lms) 1
path_leads lms ots identifier secret q h =
    let leaves = 2 ^ height lms in
    let node = 2 ^ height lms + q in
    let path = path_from ots identifier secret leaves node 0 (height lms) ∙ ap (λ (k : ℕ). siblings ots identifier secret leaves 0 k (height lms)) (div-one node) in
    ap (λ (xs : List (List ℕ)). root_over identifier node (node_hash ots identifier secret leaves 0 node) xs) path
    ∙ climbs ots identifier secret leaves 0 node (height lms)
    ∙ ap (λ (k : ℕ). node_hash ots identifier secret leaves k (above ots identifier secret leaves node (height lms))) (let e : 0 + height lms ≡ height lms = omega arith in e)
    ∙ ap (λ (k : ℕ). node_hash ots identifier secret leaves (height lms) k) (above_is ots identifier secret leaves node (height lms) ∙ root_above leaves q h)
