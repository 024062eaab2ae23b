-- What is signed verifies.
use Rattle.std.proofs.Common.{◌≡◌, ℕ, zero, suc, ◌+◌, ◌-◌, ◌^◌, ◌<◌, ◌≤◌, List, [], ◌∷◌, ◌++◌, length, fold, map, flat_map, refl, sym, ap, ◌∙◌, arith}
use Rattle.std.proofs.lemmas.Nat.{and_le_l}
use Rattle.std.specs.List.{range_with_len, AllByRecursion}
use Rattle.lms.specs.declared.OtsType.{OtsType}
use Rattle.lms.specs.declared.LmsType.{LmsType}
use Rattle.lms.specs.Parameters.{height, chain_count, chain_end}
use Rattle.lms.specs.Chains.{below, chain, chain_step, coefficient, ends_from, ends_hash, candidate, message_hash}
use Rattle.sha2.proofs.Facts256.{length-sha256}
use Rattle.std.proofs.lemmas.List.FromFn.{length-map-range_with_len}
use Rattle.lms.specs.Text.{IsHash}
use Rattle.lms.specs.Tree.{leaf_hash, root_over}
use Rattle.lms.specs.Verifies.{Verifies}
use Rattle.lms.specs.Keys.{derived, randomizer_of, element, leaf_key, node_hash, tree_hash, path_hash, public_bytes, signature_bytes}
use Rattle.lms.proofs.TreeLaws.{path_leads}
use Rattle.lms.proofs.Runs.{joined}

coefficient_within : (ots : OtsType) (hash : List ℕ) (i : ℕ) → coefficient ots hash i ≤ chain_end ots
coefficient_within ots hash i = and_le_l _ _

module _ (lms : LmsType) (ots : OtsType) (identifier secret : List ℕ) (q : ℕ) (hash : List ℕ) where
  -- the elements of a signature lead to the ends of the chains
  ends_are : (i n : ℕ) → ends_from ots identifier q hash i (map (element ots identifier secret q hash) (range_with_len i n))
      ≡ flat_map (λ k. chain identifier q k 0 (chain_end ots) (derived identifier secret q k)) (range_with_len i n)
  ends_are i zero = refl
  ends_are i (suc n) =
      let here = joined (chain_step identifier q i) (derived identifier secret q i) (coefficient ots hash i) (chain_end ots) (coefficient_within ots hash i) in
      ap (λ (xs : List ℕ). xs ++ ends_from ots identifier q hash (i + 1) (map (element ots identifier secret q hash) (range_with_len (i + 1) n))) here
      ∙ ap (λ (xs : List ℕ). chain identifier q i 0 (chain_end ots) (derived identifier secret q i) ++ xs) (ends_are (i + 1) n)

  pub candidate_is : candidate ots identifier q hash (map (element ots identifier secret q hash) (below (chain_count ots))) ≡ leaf_key ots identifier secret q
  candidate_is = ap (ends_hash identifier q) (ends_are 0 (chain_count ots))

fold_hash : (identifier : List ℕ) (q i : ℕ) (x : List ℕ) (js : List ℕ) → IsHash x → IsHash (fold (chain_step identifier q i) x js)
fold_hash identifier q i x [] h = h
fold_hash identifier q i x (j ∷ js) h = fold_hash identifier q i (chain_step identifier q i x j) js (length-sha256 _)

all_map : (f : ℕ → List ℕ) (xs : List ℕ) → ((k : ℕ) → IsHash (f k)) → AllByRecursion IsHash (map f xs)
all_map f [] h = tt
all_map f (x ∷ xs) h = (h x, all_map f xs h)

node_len : (ots : OtsType) (identifier secret : List ℕ) (leaves levels node : ℕ) → IsHash (node_hash ots identifier secret leaves levels node)
node_len ots identifier secret leaves zero node = length-sha256 _
node_len ots identifier secret leaves (suc levels) node = length-sha256 _

-- the signature of a leaf is valid under the public key of the seed
pub signature_verifies : (lms : LmsType) (ots : OtsType) (identifier secret : List ℕ) (q : ℕ) (message : List ℕ) → length identifier ≡ 16 → q < 2 ^ height lms
    → Verifies (public_bytes lms ots identifier secret) message (signature_bytes lms ots identifier secret q message)
signature_verifies lms ots identifier secret q message sized below_end =
    let hash = message_hash identifier q (randomizer_of identifier secret q) message in
    let leaves = 2 ^ height lms in
    let leaf : (leaves + q) - leaves ≡ q = omega arith in
    record {
      lms = lms;
      ots = ots;
      identifier = identifier;
      root = tree_hash lms ots identifier secret (height lms) 1;
      q = q;
      randomizer = randomizer_of identifier secret q;
      elements = map (element ots identifier secret q hash) (below (chain_count ots));
      path = map (path_hash lms ots identifier secret q) (below (height lms));
      identifier_len = sized;
      root_len = node_len ots identifier secret leaves (height lms) 1;
      randomizer_len = length-sha256 _;
      elements_count = length-map-range_with_len (element ots identifier secret q hash) 0 (chain_count ots);
      elements_len = all_map (element ots identifier secret q hash) (below (chain_count ots))
          (λ i. fold_hash identifier q i (derived identifier secret q i) (range_with_len 0 (coefficient ots hash i - 0)) (length-sha256 _));
      path_count = length-map-range_with_len (path_hash lms ots identifier secret q) 0 (height lms);
      path_len = all_map (path_hash lms ots identifier secret q) (below (height lms)) (λ i. node_len ots identifier secret leaves i _);
      key = refl;
      spelled = refl;
      leaf = below_end;
      leads = ap (λ (k : List ℕ). root_over identifier (leaves + q) (leaf_hash identifier (leaves + q) k) (map (path_hash lms ots identifier secret q) (below (height lms))))
          (candidate_is lms ots identifier secret q hash ∙ ap (leaf_key ots identifier secret) (sym leaf))
          ∙ path_leads lms ots identifier secret q below_end;
    }
