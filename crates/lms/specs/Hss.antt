-- When a signature of the hierarchical scheme is valid (RFC 8554, sections 6.1 to 6.3): an LMS key signs the next one, and so on,
-- and the last key signs the message.
use Rattle.std.specs.Prelude.{◌≡◌, ℕ, zero, suc, ◌+◌, ◌<◌, ◌⊎◌, List, ◌++◌, length}
use Rattle.lms.specs.declared.OtsType.{OtsType}
use Rattle.lms.specs.declared.LmsType.{LmsType}
use Rattle.lms.specs.Parameters.{signature_len}
use Rattle.lms.specs.Text.{u32, HasTypes}
use Rattle.lms.specs.Parts.{IsKeyOf, IsSignatureOf}
use Rattle.lms.specs.Verifies.{Verifies, hash_count}

-- u32 L || pub[0], and u32 (L - 1) || rest, for L from 1 to 8: so many keys are signed, the first of them by the top key
pub record AreLevels (public signature : List ℕ) (signed_keys : ℕ) (top rest : List ℕ) : Type 0 where
  pub few : signed_keys < 8
  pub key : public ≡ u32 (signed_keys + 1) ++ top
  pub spelled : signature ≡ u32 signed_keys ++ rest

-- so many signed keys, each behind the signature of the key before it, and then a signature of the message by the last
abbrev pub VerifiesDown : ℕ → List ℕ → List ℕ → List ℕ → Type 0
VerifiesDown zero public message rest = Verifies public message rest
VerifiesDown (suc n) public message rest =
    (signature : List ℕ) × (next : List ℕ) × (later : List ℕ)
    × (rest ≡ signature ++ (next ++ later)) × Verifies public next signature × VerifiesDown n next message later

-- a key of L levels and a signature of as many verify
pub record VerifiesHss (public message signature : List ℕ) : Type 0 where
  pub signed_keys : ℕ
  pub top : List ℕ
  pub rest : List ℕ
  pub levels : AreLevels public signature signed_keys top rest
  pub down : VerifiesDown signed_keys top message rest

-- how many hashes one signature takes, and all of them, level by level
abbrev pub hashes_of : (public message signature : List ℕ) → Verifies public message signature → ℕ
hashes_of public message signature v = hash_count v.lms v.ots v.identifier message v.q v.randomizer

abbrev pub hashes_down : (n : ℕ) (public message rest : List ℕ) → VerifiesDown n public message rest → ℕ
hashes_down zero public message rest v = hashes_of public message rest v
hashes_down (suc n) public message rest (signature, next, later, is, v, down) =
    hashes_of public next signature v + hashes_down n next message later down

-- so many hashes one signature takes, valid or not: those of its parts, and none where the bytes are no key and signature of its types
pub record TakesHashes (public message signature : List ℕ) (count : ℕ) : Type 0 where
  pub parts : (lms : LmsType) (ots : OtsType) (identifier root : List ℕ) (q : ℕ) (randomizer : List ℕ) (elements path : List (List ℕ))
      → IsKeyOf public lms ots identifier root → IsSignatureOf lms ots signature q randomizer elements path
      → count ≡ hash_count lms ots identifier message q randomizer
  pub none : ((lms : LmsType) (ots : OtsType) (identifier root : List ℕ) (q : ℕ) (randomizer : List ℕ) (elements path : List (List ℕ))
      → IsKeyOf public lms ots identifier root → IsSignatureOf lms ots signature q randomizer elements path → ⊥)
      → count ≡ 0

-- bytes cut into a signature as long as the signer's types ask, the key that it signs, and what follows
pub record IsLevel (signer rest signature next later : List ℕ) : Type 0 where
  pub lms : LmsType
  pub ots : OtsType
  pub types : HasTypes signer lms ots
  pub signature_length : length signature ≡ signature_len ots lms
  pub next_length : length next ≡ 56
  pub whole : rest ≡ signature ++ (next ++ later)

-- so many hashes the levels take, valid or not: those of each level up to the first that does not verify
abbrev pub TakesDown : ℕ → List ℕ → List ℕ → List ℕ → ℕ → Type 0
TakesDown zero public message rest count = TakesHashes public message rest count
TakesDown (suc n) public message rest count =
    (((signature next later : List ℕ) → IsLevel public rest signature next later → ⊥) × (count ≡ 0))
    ⊎ ((signature : List ℕ) × (next : List ℕ) × (later : List ℕ) × IsLevel public rest signature next later
    × (here : ℕ) × (below : ℕ) × (count ≡ here + below) × TakesHashes public next signature here
    × (((Verifies public next signature → ⊥) × (below ≡ 0)) ⊎ (Verifies public next signature × TakesDown n next message later below)))

-- and a key and a signature of levels: none where they are not of one number of levels
abbrev pub TakesHss : List ℕ → List ℕ → List ℕ → ℕ → Type 0
TakesHss public message signature count =
    (((n : ℕ) (top rest : List ℕ) → AreLevels public signature n top rest → ⊥) × (count ≡ 0))
    ⊎ ((n : ℕ) × (top : List ℕ) × (rest : List ℕ) × AreLevels public signature n top rest × TakesDown n top message rest count)
