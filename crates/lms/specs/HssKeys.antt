-- The public key and the signatures of the hierarchical scheme that a seed makes (RFC 8554, sections 6.1 and 6.2). The seed is that of the
-- top tree. Each leaf above the lowest trees signs one message only, the public key of a tree below it, whose seed comes from this leaf.
use Rattle.std.specs.Prelude.{◌≡◌, ◌⊎◌, ℕ, ◌+◌, ◌*◌, ◌/◌, ◌%◌, List, [], ◌∷◌, ◌++◌, length, take}
use Rattle.lms.specs.declared.Params.{Params}
use Rattle.lms.specs.declared.Levels.{Levels}
use Rattle.lms.specs.declared.Seed.{Seed}
use Rattle.lms.specs.Parameters.{signing_type}
use Rattle.lms.specs.Text.{u32}
use Rattle.lms.specs.Keys.{derived, leaf_count, public_bytes, signature_bytes}

-- SEED and I of the tree whose key leaf q signs. They are derived as the leaf's private elements are (appendix A), with the numbers 0xfffe
-- and 0xffff, which no chain has, nor the randomizer. I is the first half of its hash.
abbrev pub child_secret : List ℕ → List ℕ → ℕ → List ℕ
child_secret identifier secret q = derived identifier secret q 0xfffe

abbrev pub child_identifier : List ℕ → List ℕ → ℕ → List ℕ
child_identifier identifier secret q = take 16 (derived identifier secret q 0xffff)

-- the public key and the signatures of one tree (sections 5.3 and 5.4)
abbrev pub tree_public : Params → List ℕ → List ℕ → List ℕ
tree_public params identifier secret = public_bytes (signing_type params.height) params.ots identifier secret

abbrev pub tree_signature : Params → List ℕ → List ℕ → ℕ → List ℕ → List ℕ
tree_signature params identifier secret q message = signature_bytes (signing_type params.height) params.ots identifier secret q message

-- the public key of the tree that leaf q signs
abbrev pub child_public : Params → List ℕ → List ℕ → ℕ → List ℕ
child_public params identifier secret q = tree_public params (child_identifier identifier secret q) (child_secret identifier secret q)

-- how many messages a tree signs with those below it: a lowest leaf for each
abbrev pub message_count : Params → List Params → ℕ
message_count params [] = leaf_count params
message_count params (next ∷ below) = leaf_count params * message_count next below

-- The signature with the lowest leaf number g, without the word in front. Its leaf of this tree is the number of the tree below that has
-- leaf g, which this leaf signs; the rest is that tree's.
abbrev pub signed_down : Params → List Params → List ℕ → List ℕ → ℕ → List ℕ → List ℕ
signed_down params [] identifier secret g message = tree_signature params identifier secret g message
signed_down params (next ∷ below) identifier secret g message =
    let q = g / message_count next below in
    let key = child_public next identifier secret q in
    tree_signature params identifier secret q key
    ++ (key ++ signed_down next below (child_identifier identifier secret q) (child_secret identifier secret q) (g % message_count next below) message)

-- u32 L || pub[0] (section 6.1)
abbrev pub hss_public_bytes : Params → List Params → List ℕ → List ℕ → List ℕ
hss_public_bytes params below identifier secret = u32 (length below + 1) ++ tree_public params identifier secret

-- u32 Nspk || signed_pub_key[0] .. signed_pub_key[Nspk - 1] || sig[Nspk] (section 6.2)
abbrev pub hss_signature_bytes : Params → List Params → List ℕ → List ℕ → ℕ → List ℕ → List ℕ
hss_signature_bytes params below identifier secret g message = u32 (length below) ++ signed_down params below identifier secret g message

-- A one-time key is named by the leaves from the top tree down to it. Which of them signature g spends, and what each signs: the public key of
-- the tree below, or the message.
abbrev pub Spends : Params → List Params → List ℕ → List ℕ → ℕ → List ℕ → List ℕ → List ℕ → Type 0
Spends params [] identifier secret g message leaves signed = (leaves ≡ g ∷ []) × (signed ≡ message)
Spends params (next ∷ below) identifier secret g message leaves signed =
    let q = g / message_count next below in
    ((leaves ≡ q ∷ []) × (signed ≡ child_public next identifier secret q))
    ⊎ ((rest : List ℕ) × (leaves ≡ q ∷ rest)
    × Spends next below (child_identifier identifier secret q) (child_secret identifier secret q) (g % message_count next below) message rest signed)

-- the same of the code's values, of two levels
abbrev pub child_of : Seed → ℕ → Seed
child_of seed q = record { identifier = child_identifier seed.identifier seed.secret q; secret = child_secret seed.identifier seed.secret q }

abbrev pub hss_public_of : Seed → Levels → List ℕ
hss_public_of seed levels = hss_public_bytes levels.top (levels.bottom ∷ []) seed.identifier seed.secret

abbrev pub hss_signature_of : Seed → Levels → ℕ → List ℕ → List ℕ
hss_signature_of seed levels g message = hss_signature_bytes levels.top (levels.bottom ∷ []) seed.identifier seed.secret g message

abbrev pub message_count_of : Levels → ℕ
message_count_of levels = message_count levels.top (levels.bottom ∷ [])

-- a seed with what a key pair of two levels is made by besides
pub record HssPair : Type 0 where
  pub seed : Seed
  pub levels : Levels

abbrev pub hss_pair : Seed → Levels → HssPair
hss_pair seed levels = record { seed = seed; levels = levels }
