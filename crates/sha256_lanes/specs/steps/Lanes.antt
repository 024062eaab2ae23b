-- Several messages side by side: each word is a vector, with one lane for each message.
use Rattle.std.specs.Prelude.{◌≡◌, ℕ, ◌*◌, ◌/◌, List, [], ◌∷◌, drop, length, map, min, slice_index, slice_index_or, take}
use Rattle.sha2.specs.Sha256.{hash_after, initial_hash_256, padded_message}

-- lane j of vector k
abbrev pub lane_at : List (List ℕ) → ℕ → ℕ → ℕ
lane_at v k j = slice_index (slice_index_or v k []) j

-- the eight words of a hash value, or of the working variables, in lane j
abbrev pub lane : ℕ → List (List ℕ) → List ℕ
lane j v =
    lane_at v 0 j ∷ lane_at v 1 j ∷ lane_at v 2 j ∷ lane_at v 3 j
    ∷ lane_at v 4 j ∷ lane_at v 5 j ∷ lane_at v 6 j ∷ lane_at v 7 j ∷ []

-- the words of a window, of any length, in lane j
abbrev pub column : ℕ → List (List ℕ) → List ℕ
column j w = map (λ v. slice_index v j) w

-- how many blocks a message is with its padding
abbrev pub blocks_of : List ℕ → ℕ
blocks_of m = length (padded_message m) / 64

-- block i of a message with its padding
abbrev pub block_at : List ℕ → ℕ → List ℕ
block_at m i = take 64 (drop (i * 64) (padded_message m))

-- the hash value of a message after n of its blocks, or after all where it has fewer
abbrev pub hash_at : List ℕ → ℕ → List ℕ
hash_at m n = hash_after initial_hash_256 (padded_message m) (min n (blocks_of m))

-- the lanes are the hash values of four messages after n blocks
pub record AreHashes (a b c d : List ℕ) (state : List (List ℕ)) (n : ℕ) : Type 0 where
  pub first : lane 0 state ≡ hash_at a n
  pub second : lane 1 state ≡ hash_at b n
  pub third : lane 2 state ≡ hash_at c n
  pub fourth : lane 3 state ≡ hash_at d n
