-- The numbers of nodes, and lists that are made one number at a time.
use Rattle.std.proofs.Common.{◌≡◌, ◌≢◌, ℕ, zero, suc, ◌+◌, ◌-◌, ◌*◌, ◌/◌, ◌%◌, ◌^◌, ◌<◌, ◌≤◌, List, [], ◌∷◌, ◌++◌, map, flat_map, refl, sym, ap, ◌∙◌, arith, append_assoc, append-nil, bit_xor}
use Rattle.std.proofs.Math.Nat.{pow-suc, mul-le-mul_left, mul-le-mul_right, le-div_iff_mul-le, div-lt_iff_lt-mul}
use Rattle.std.proofs.lemmas.Nat.{pow-add}
use Rattle.std.proofs.lemmas.List.Concat.{flat_map-cons}
use Rattle.std.specs.List.{range_with_len, concat}
use Rattle.lms.specs.declared.OtsType.{OtsType}
use Rattle.lms.specs.Tree.{inner_hash}
use Rattle.lms.specs.Keys.{node_hash}
use Rattle.lms.proofs.TreeLaws.{xor_one}

pub pow_half : (levels : ℕ) → levels ≢ 0 → 2 ^ levels ≡ 2 * 2 ^ (levels - 1)
pow_half zero h = absurd (h refl)
pow_half (suc k) h =
    let e : suc k - 1 ≡ k = omega arith in
    let p = pow-suc 2 k in
    rw e (omega arith)

pub pow_positive : (levels : ℕ) → 1 ≤ 2 ^ levels
pow_positive zero = omega arith
pow_positive (suc k) = omega (arith, pow-suc 2 k, pow_positive k)

pub record IsWithin (leaves node levels : ℕ) : Type 0 where
  pub first : leaves ≤ node * 2 ^ levels
  pub last : (node + 1) * 2 ^ levels ≤ 2 ^ 31

pub left_within : (leaves node levels : ℕ) → levels ≢ 0 → leaves ≤ node * 2 ^ levels → (node + 1) * 2 ^ levels ≤ 2 ^ 31 → IsWithin leaves (2 * node) (levels - 1)
left_within leaves node levels h a b =
    let e = pow_half levels h in
    let a' : leaves ≤ node * (2 * 2 ^ (levels - 1)) = rw e at a in
    let b' : (node + 1) * (2 * 2 ^ (levels - 1)) ≤ 2 ^ 31 = rw e at b in
    record { first = omega arith; last = omega arith }

pub right_within : (leaves node levels : ℕ) → levels ≢ 0 → leaves ≤ node * 2 ^ levels → (node + 1) * 2 ^ levels ≤ 2 ^ 31 → IsWithin leaves (2 * node + 1) (levels - 1)
right_within leaves node levels h a b =
    let e = pow_half levels h in
    let a' : leaves ≤ node * (2 * 2 ^ (levels - 1)) = rw e at a in
    let b' : (node + 1) * (2 * 2 ^ (levels - 1)) ≤ 2 ^ 31 = rw e at b in
    record { first = omega arith; last = omega arith }

pub node_small : (node levels : ℕ) → (node + 1) * 2 ^ levels ≤ 2 ^ 31 → node + 1 ≤ 2 ^ 31
node_small node levels h =
    let p = pow_positive levels in
    let m : (node + 1) * 1 ≤ (node + 1) * 2 ^ levels = mul-le-mul_left (node + 1) p in
    omega arith

pub above_is : (ots : OtsType) (identifier secret : List ℕ) (leaves levels node : ℕ) → levels ≢ 0
    → inner_hash identifier node (node_hash ots identifier secret leaves (levels - 1) (2 * node)) (node_hash ots identifier secret leaves (levels - 1) (2 * node + 1))
    ≡ node_hash ots identifier secret leaves levels node
above_is ots identifier secret leaves zero node h = absurd (h refl)
above_is ots identifier secret leaves (suc k) node h =
    let e : suc k - 1 ≡ k = omega arith in
    rw e refl

pub flat_more : (f : ℕ → List ℕ) (i n : ℕ) (m end whole : List ℕ) → i < n → end ≡ f i → m ++ flat_map f (range_with_len i (n - i)) ≡ whole
    → (m ++ end) ++ flat_map f (range_with_len (i + 1) (n - (i + 1))) ≡ whole
flat_more f i n m end whole h e before =
    let rest = range_with_len (i + 1) (n - (i + 1)) in
    let s : n - i ≡ suc (n - (i + 1)) = omega arith in
    let cut : flat_map f (range_with_len i (n - i)) ≡ f i ++ flat_map f rest = ap (λ (k : ℕ). flat_map f (range_with_len i k)) s ∙ flat_map-cons f i rest in
    append_assoc m end (flat_map f rest)
    ∙ ap (λ (xs : List ℕ). m ++ (xs ++ flat_map f rest)) e
    ∙ ap (λ (xs : List ℕ). m ++ xs) (sym cut)
    ∙ before

pub flat_done : (f : ℕ → List ℕ) (i n : ℕ) (m whole : List ℕ) → n ≤ i → m ++ flat_map f (range_with_len i (n - i)) ≡ whole → m ≡ whole
flat_done f i n m whole h before =
    let s : n - i ≡ 0 = omega arith in
    sym (append-nil m) ∙ ap (λ (k : ℕ). m ++ flat_map f (range_with_len i k)) (sym s) ∙ before

pub flat_is_concat : (f : ℕ → List ℕ) (xs : List ℕ) → flat_map f xs ≡ concat (map f xs)
flat_is_concat f [] = refl
flat_is_concat f (x ∷ xs) = flat_map-cons f x xs ∙ ap (λ (ys : List ℕ). f x ++ ys) (flat_is_concat f xs)

-- the sibling of a node on the way from a leaf to the root has its leaves within the tree
pub sibling_within : (h i q leaves : ℕ) → leaves ≡ 2 ^ h → leaves ≤ 2 ^ 25 → q < leaves → i < h → IsWithin leaves (bit_xor ((leaves + q) / 2 ^ i) 1) i
sibling_within h i q leaves e small below in_ =
    let n = (leaves + q) / 2 ^ i in
    let sibling = bit_xor n 1 in
    let positive : 0 < 2 ^ i = omega (arith, pow_positive i) in
    let split : h - i + i ≡ h = omega arith in
    let product : leaves ≡ 2 ^ (h - i) * 2 ^ i = e ∙ ap (λ (k : ℕ). 2 ^ k) (sym split) ∙ pow-add 2 (h - i) i in
    let some : h - i ≢ 0 = λ z. omega arith in
    let half = pow_half (h - i) some in
    let low : 2 ^ (h - i) ≤ n = (le-div_iff_mul-le positive).1 (omega arith) in
    let double : leaves + q < (2 * 2 ^ (h - i)) * 2 ^ i = omega arith in
    let high : n < 2 * 2 ^ (h - i) = (div-lt_iff_lt-mul positive).1 double in
    let x : sibling + 2 * (n % 2) ≡ n + 1 = xor_one n in
    let from : 2 ^ (h - i) ≤ sibling = omega arith in
    let to : sibling + 1 ≤ 2 * 2 ^ (h - i) = omega arith in
    let a = mul-le-mul_right (2 ^ i) from in
    let b = mul-le-mul_right (2 ^ i) to in
    record { first = omega arith; last = omega arith }
