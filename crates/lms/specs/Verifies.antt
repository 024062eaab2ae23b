-- When a signature is valid (RFC 8554, section 5.4.2, algorithm 6).
use Rattle.std.specs.Prelude.{◌≡◌, ℕ, ◌+◌, ◌^◌, ◌<◌, List, length}
use Rattle.std.specs.List.{AllByRecursion}
use Rattle.lms.specs.declared.OtsType.{OtsType}
use Rattle.lms.specs.declared.LmsType.{LmsType}
use Rattle.lms.specs.Parameters.{chain_count, height}
use Rattle.lms.specs.Text.{public_text, signature_text, IsHash}
use Rattle.lms.specs.Chains.{message_hash, candidate, chain_steps}
use Rattle.lms.specs.Tree.{leaf_hash, root_over}

-- Tc, the candidate for the root: what a signature's parts make of a message
abbrev pub root_by : LmsType → OtsType → List ℕ → List ℕ → ℕ → List ℕ → List (List ℕ) → List (List ℕ) → List ℕ
root_by lms ots identifier message q randomizer elements path =
    root_over identifier (2 ^ height lms + q)
    (leaf_hash identifier (2 ^ height lms + q) (candidate ots identifier q (message_hash identifier q randomizer message) elements)) path

-- how many hashes that takes: Q, the steps of the chains, Kc, the leaf and the path
abbrev pub hash_count : LmsType → OtsType → List ℕ → List ℕ → ℕ → List ℕ → ℕ
hash_count lms ots identifier message q randomizer = chain_steps ots (message_hash identifier q randomizer message) + 3 + height lms

-- The bytes of the key and of the signature are those of some parts, and the parts lead to the key's root.
pub record Verifies (public message signature : List ℕ) : Type 0 where
  pub lms : LmsType
  pub ots : OtsType
  pub identifier : List ℕ
  pub root : List ℕ
  pub q : ℕ
  pub randomizer : List ℕ
  pub elements : List (List ℕ)
  pub path : List (List ℕ)
  pub identifier_len : length identifier ≡ 16
  pub root_len : IsHash root
  pub randomizer_len : IsHash randomizer
  pub elements_count : length elements ≡ chain_count ots
  pub elements_len : AllByRecursion IsHash elements
  pub path_count : length path ≡ height lms
  pub path_len : AllByRecursion IsHash path
  pub key : public ≡ public_text lms ots identifier root
  pub spelled : signature ≡ signature_text lms ots q randomizer elements path
  pub leaf : q < 2 ^ height lms
  pub leads : root_by lms ots identifier message q randomizer elements path ≡ root
