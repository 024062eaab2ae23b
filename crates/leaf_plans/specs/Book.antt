-- The book of leaves: the signing keys with their parameters, and the leaf history, which is the set of the leaves that are kept
-- for messages (RFC 8554, section 9: a leaf must sign one message only).
use Rattle.std.specs.Prelude.{◌≡◌, ◌≢◌, ◌<◌, ℕ, List, [], ◌∷◌, ◌++◌, length}
use Rattle.std.specs.List.{AllByRecursion}
use Rattle.hex.specs.Hex.{encode_lower}
use Rattle.lms.specs.declared.Params.{Params}
use Rattle.lms.specs.declared.Seed.{Seed}
use Rattle.lms.specs.Keys.{leaf_count, public_of}
use Rattle.keys_roles.specs.Keys.{id_of}
use Rattle.keys_roles.specs.Plain.{lms}
use Rattle.sqlite_rules.specs.Lists.{Has}

-- a key that signs, by its id, and the parameters of its tree
pub record Signer : Type 0 where
  pub key : List ℕ
  pub params : Params

-- a leaf of a key, by its number, and the message that it is kept for
pub record LeafRow : Type 0 where
  pub key : List ℕ
  pub leaf : ℕ
  pub message : List ℕ

-- both as sets
pub record Book : Type 0 where
  pub signers : List Signer
  pub leaves : List LeafRow

abbrev pub no_book : Book
no_book = record { signers = []; leaves = [] }

-- ---- what a book holds

-- the key is in the book, with these parameters
abbrev pub IsRegistered : Book → List ℕ → Params → Type 0
IsRegistered b key params = Has b.signers (record { key = key; params = params })

-- the leaf history has this entry
abbrev pub Keeps : Book → List ℕ → ℕ → List ℕ → Type 0
Keeps b key leaf message = Has b.leaves (record { key = key; leaf = leaf; message = message })

-- the leaf is kept for some message, or for none
abbrev pub IsUsed : Book → List ℕ → ℕ → Type 0
IsUsed b key leaf = (message : List ℕ) × Keeps b key leaf message

abbrev pub IsUnused : Book → List ℕ → ℕ → Type 0
IsUnused b key leaf = (message : List ℕ) → Keeps b key leaf message → ⊥

-- no leaf of the key is kept for the message
abbrev pub LacksMessage : Book → List ℕ → List ℕ → Type 0
LacksMessage b key message = (leaf : ℕ) → Keeps b key leaf message → ⊥

-- the least leaf of the key that is not used
pub record IsLeastUnused (b : Book) (key : List ℕ) (leaf : ℕ) : Type 0 where
  pub unused : IsUnused b key leaf
  pub least : (n : ℕ) → n < leaf → IsUsed b key n

-- ---- a book that is in order

-- 64 hex digits of lower case
abbrev pub IsKeyId : List ℕ → Type 0
IsKeyId key = (digest : List ℕ) × (length digest ≡ 32) × AllByRecursion (λ b. b < 256) digest × (key ≡ encode_lower digest)

-- a key has one set of parameters; a leaf is one of a key's tree; at most one message for a leaf of a key, and at most one leaf of a
-- key for a message
pub record IsBook (b : Book) : Type 0 where
  pub ids : (s : Signer) → Has b.signers s → IsKeyId s.key
  pub one_signer : (s t : Signer) → Has b.signers s → Has b.signers t → s.key ≡ t.key → s ≡ t
  pub known : (e : LeafRow) → Has b.leaves e → (params : Params) × IsRegistered b e.key params × (e.leaf < leaf_count params)
  pub one_message : (e f : LeafRow) → Has b.leaves e → Has b.leaves f → e.key ≡ f.key → e.leaf ≡ f.leaf → e ≡ f
  pub one_leaf : (e f : LeafRow) → Has b.leaves e → Has b.leaves f → e.key ≡ f.key → e.message ≡ f.message → e ≡ f

-- the same keys and the same leaf history, in any order
pub record AreSame (b c : Book) : Type 0 where
  pub signers : (s : Signer) → (Has b.signers s → Has c.signers s) × (Has c.signers s → Has b.signers s)
  pub leaves : (e : LeafRow) → (Has b.leaves e → Has c.leaves e) × (Has c.leaves e → Has b.leaves e)

-- ---- what becomes of a book

abbrev pub with_signer : List ℕ → Params → Book → Book
with_signer key params b = record b { signers = b.signers ++ record { key = key; params = params } ∷ [] }

abbrev pub with_leaf : List ℕ → ℕ → List ℕ → Book → Book
with_leaf key leaf message b = record b { leaves = b.leaves ++ record { key = key; leaf = leaf; message = message } ∷ [] }

-- the id of the key of a seed: that of the key object of its public key (TUF 1.0, section 4.2)
abbrev pub key_of : Seed → Params → List ℕ
key_of seed params = id_of (lms (public_of seed params))

-- ---- one-time keys

-- A one-time key is what a seed makes at a number q. Its private elements are digests of I, q, their own number and SEED (RFC 8554,
-- appendix A; `derived` of lms/specs/Keys), and of nothing else: neither the width of the signatures nor the height of the tree. So two
-- trees of one seed have one-time keys in common, from q = 0 on, and at most one tree of a seed may sign.

-- a tree of the seed with these parameters is registered
abbrev pub HasTree : Book → Seed → Params → Type 0
HasTree b seed params = IsRegistered b (key_of seed params) params

-- a tree of the seed with other parameters is registered
abbrev pub HasOtherTree : Book → Seed → Params → Type 0
HasOtherTree b seed params = (other : Params) × (other ≢ params) × HasTree b seed other

-- none is
abbrev pub LacksOtherTree : Book → Seed → Params → Type 0
LacksOtherTree b seed params = (other : Params) → other ≢ params → HasTree b seed other → ⊥
