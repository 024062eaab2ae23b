-- The public key and the signatures of a seed: private elements by RFC 8554, appendix A, and the tree by
-- section 5.3. The randomizer of a signature is made like a private element, with the number 0xfffd.
use Rattle.std.specs.Prelude.{ℕ, zero, suc, ◌+◌, ◌-◌, ◌*◌, ◌/◌, ◌^◌, List, ◌∷◌, ◌++◌, map, flat_map, bit_xor}
use Rattle.sha2.specs.Sha256.{sha256}
use Rattle.lms.specs.declared.OtsType.{OtsType}
use Rattle.lms.specs.declared.LmsType.{LmsType}
use Rattle.lms.specs.declared.Params.{Params}
use Rattle.lms.specs.declared.Seed.{Seed}
use Rattle.lms.specs.Parameters.{chain_count, chain_end, height, signing_type}
use Rattle.lms.specs.Text.{u16, u32, public_text, signature_text}
use Rattle.lms.specs.Chains.{below, chain, coefficient, message_hash, ends_hash}
use Rattle.lms.specs.Tree.{leaf_hash, inner_hash}

-- I || u32 q || u16 i || u8 0xff || SEED
abbrev pub derived : List ℕ → List ℕ → ℕ → ℕ → List ℕ
derived identifier secret q i = sha256 (identifier ++ u32 q ++ u16 i ++ 0xff ∷ secret)

-- C of leaf q
abbrev pub randomizer_of : List ℕ → List ℕ → ℕ → List ℕ
randomizer_of identifier secret q = derived identifier secret q 0xfffd

-- the one-time public key of leaf q: each chain from its private element to its end
abbrev pub leaf_key : OtsType → List ℕ → List ℕ → ℕ → List ℕ
leaf_key ots identifier secret q =
    ends_hash identifier q (flat_map (λ i. chain identifier q i 0 (chain_end ots) (derived identifier secret q i)) (below (chain_count ots)))

-- T of a node that has so many levels below it, in a tree whose leaves begin at the node with the number `leaves`
abbrev pub node_hash : OtsType → List ℕ → List ℕ → ℕ → ℕ → ℕ → List ℕ
node_hash ots identifier secret leaves zero node = leaf_hash identifier node (leaf_key ots identifier secret (node - leaves))
node_hash ots identifier secret leaves (suc levels) node =
    inner_hash identifier node (node_hash ots identifier secret leaves levels (2 * node)) (node_hash ots identifier secret leaves levels (2 * node + 1))

-- y[i] of leaf q for the hash of a message: the private element, up to where its chain is cut
abbrev pub element : OtsType → List ℕ → List ℕ → ℕ → List ℕ → ℕ → List ℕ
element ots identifier secret q hash i = chain identifier q i 0 (coefficient ots hash i) (derived identifier secret q i)

module _ (lms : LmsType) (ots : OtsType) (identifier secret : List ℕ) where
  -- T of a node so many levels above the leaves
  abbrev pub tree_hash : ℕ → ℕ → List ℕ
  tree_hash levels node = node_hash ots identifier secret (2 ^ height lms) levels node

  -- the public key of the seed
  abbrev pub public_bytes : List ℕ
  public_bytes = public_text lms ots identifier (tree_hash (height lms) 1)

  -- path[i] of leaf q: T of the sibling of the node i levels above the leaf, which differs in the last bit alone
  abbrev pub path_hash : ℕ → ℕ → List ℕ
  path_hash q i = tree_hash i (bit_xor ((2 ^ height lms + q) / 2 ^ i) 1)

  -- the signature of leaf q
  abbrev pub signature_bytes : ℕ → List ℕ → List ℕ
  signature_bytes q message =
      let hash = message_hash identifier q (randomizer_of identifier secret q) message in
      signature_text lms ots q (randomizer_of identifier secret q) (map (element ots identifier secret q hash) (below (chain_count ots))) (map (path_hash q) (below (height lms)))

-- the same of the code's values
abbrev pub public_of : Seed → Params → List ℕ
public_of seed params = public_bytes (signing_type params.height) params.ots seed.identifier seed.secret

abbrev pub signature_of : Seed → Params → ℕ → List ℕ → List ℕ
signature_of seed params q message = signature_bytes (signing_type params.height) params.ots seed.identifier seed.secret q message

abbrev pub leaf_count : Params → ℕ
leaf_count params = 2 ^ height (signing_type params.height)

-- a seed with what a key pair is made by besides
pub record Pair : Type 0 where
  pub seed : Seed
  pub params : Params

abbrev pub pair : Seed → Params → Pair
pair seed params = record { seed = seed; params = params }
