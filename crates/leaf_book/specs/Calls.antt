-- What each call does to the book: the book before it, what it answers, and the book after it.
use Rattle.std.specs.Prelude.{◌≡◌, ◌≢◌, ◌⊎◌, ◌<◌, ℕ, List, Result, Ok, Err}
use Rattle.lms.specs.declared.Params.{Params}
use Rattle.lms.specs.declared.Seed.{Seed}
use Rattle.lms.specs.Keys.{leaf_count, signature_of}
use Rattle.leaf_book.specs.declared.faults.BookFault.{BookFault}
use Rattle.leaf_book.specs.declared.faults.BookFault.TheVariants.{LeavesSpent, UnknownKey, Damaged, OtherTree, Database, OutOfMemory}
use Rattle.leaf_plans.specs.Book.{Book, HasOtherTree, IsLeastUnused, IsRegistered, IsUsed, Keeps, LacksMessage, LacksOtherTree, key_of, with_leaf, with_signer}

-- A leaf that was answered and is to be spent: one of the key's tree with these parameters, for this message.
pub record Reserved : Type 0 where
  pub key : List ℕ
  pub leaf : ℕ
  pub params : Params
  pub message : List ℕ

-- The key of a seed is registered: nothing changes where it is there with the same parameters, and it is `Damaged` where it is there
-- with others. It is `OtherTree` where the seed has a tree there with other parameters, whose one-time keys are the same, and then the
-- key is not answered, even where it is there.
abbrev pub Registers : Book → Seed → Params → Result (List ℕ) BookFault → Book → Type 0
Registers b seed params (Ok key) c =
    (key ≡ key_of seed params) × LacksOtherTree b seed params
    × ((IsRegistered b key params × (c ≡ b)) ⊎ (((other : Params) → IsRegistered b key other → ⊥) × (c ≡ with_signer key params b)))
Registers b seed params (Err Damaged) c = ((other : Params) × IsRegistered b (key_of seed params) other × (other ≢ params)) × (c ≡ b)
Registers b seed params (Err OtherTree) c = HasOtherTree b seed params × (c ≡ b)
Registers b seed params (Err LeavesSpent) c = ⊥
Registers b seed params (Err UnknownKey) c = ⊥
Registers b seed params (Err Database) c = c ≡ b
Registers b seed params (Err OutOfMemory) c = c ≡ b

-- The leaf that the history holds for the key and the message, else the least one that is not used, and then the history has just
-- this entry more. `LeavesSpent` where the history holds none for the message and every leaf of the tree, and `UnknownKey` where the
-- key is not registered.
abbrev pub Reserves : Book → List ℕ → List ℕ → Result Reserved BookFault → Book → Type 0
Reserves b key message (Ok r) c =
    (r.key ≡ key) × (r.message ≡ message) × IsRegistered b key r.params × (r.leaf < leaf_count r.params)
    × ((Keeps b key r.leaf message × (c ≡ b)) ⊎ (LacksMessage b key message × IsLeastUnused b key r.leaf × (c ≡ with_leaf key r.leaf message b)))
Reserves b key message (Err LeavesSpent) c =
    ((params : Params) × IsRegistered b key params × ((leaf : ℕ) → leaf < leaf_count params → IsUsed b key leaf)) × LacksMessage b key message × (c ≡ b)
Reserves b key message (Err UnknownKey) c = ((params : Params) → IsRegistered b key params → ⊥) × (c ≡ b)
Reserves b key message (Err Damaged) c = ⊥
Reserves b key message (Err OtherTree) c = ⊥
Reserves b key message (Err Database) c = c ≡ b
Reserves b key message (Err OutOfMemory) c = c ≡ b

-- the seed is that of the leaf's key
abbrev pub IsSeedOf : Seed → Reserved → Type 0
IsSeedOf seed r = key_of seed r.params ≡ r.key

-- the signature of the leaf's message with the leaf (RFC 8554, section 5.4.1)
abbrev pub signature_by : Seed → Reserved → List ℕ
signature_by seed r = signature_of seed r.params r.leaf r.message
