-- Messages that are signed by a tree whose public key another tree signs (RFC 8554, section 6.2), and what becomes of the book. Both trees
-- are keys of one book, so each of their leaves signs one message.
use Rattle.std.specs.Prelude.{◌≡◌, ◌≢◌, ◌⊎◌, ◌++◌, ℕ, List}
use Rattle.lms.specs.declared.Params.{Params}
use Rattle.lms.specs.Keys.{Pair, public_of}
use Rattle.lms.specs.Parameters.{signature_len, signing_type}
use Rattle.lms.specs.Text.{u32}
use Rattle.leaf_plans.specs.Book.{Book, IsLeastUnused, Keeps, LacksMessage, key_of}
use Rattle.leaf_plans.specs.Planning.{AreUsed}
use Rattle.leaf_book.specs.declared.faults.BookFault.{BookFault}
use Rattle.leaf_book.specs.declared.faults.BookFault.TheVariants.{Damaged, OutOfMemory}
use Rattle.signer.specs.Messages.{IsBegun, IsUnsigned, Signs}

-- the public key of a tree, and its id
abbrev pub public_by : Pair → List ℕ
public_by p = public_of p.seed p.params

abbrev pub key_by : Pair → List ℕ
key_by p = key_of p.seed p.params

-- how many bytes the signatures of a tree have
abbrev pub tree_signature_len : Params → ℕ
tree_signature_len params = signature_len params.ots (signing_type params.height)

-- the leaf of the key that the book keeps for the message, or would keep for it
abbrev pub IsLeafFor : Book → List ℕ → List ℕ → ℕ → Type 0
IsLeafFor b key message leaf = Keeps b key leaf message ⊎ (LacksMessage b key message × (AreUsed b key → ⊥) × IsLeastUnused b key leaf)

-- Leaf q of the top tree signs the public key of the tree below, and a leaf of that tree the message. The signature is u32 1, the first
-- signature with the key that it is of, and the second.
pub record SignsBelow (before : Book) (top : Pair) (q : ℕ) (below : Pair) (message signature : List ℕ) (after : Book) : Type 0 where
  pub between : Book
  pub first : List ℕ
  pub last : List ℕ
  pub signs_key : Signs before top.seed top.params (public_by below) first between
  pub by_leaf : signs_key.leaf.leaf ≡ q
  pub signs_message : Signs between below.seed below.params message last after
  pub joined : signature ≡ u32 1 ++ (first ++ (public_by below ++ last))

-- as far as that may have come: the signing of the tree's key has begun, or it is done and that of the message has begun
abbrev pub IsBegunBelow : Book → Pair → Pair → List ℕ → Book → Type 0
IsBegunBelow before top below message after =
    IsBegun before top.seed top.params (public_by below) after
    ⊎ ((between : Book) × (first : List ℕ) × Signs before top.seed top.params (public_by below) first between × IsBegun between below.seed below.params message after)

-- Why none is made: no leaf of the top tree signs the key; or another one than q does; or q does, and no leaf of the tree below signs the
-- message, or one does and the whole has no memory.
abbrev pub IsUnsignedBelow : Book → Pair → ℕ → Pair → List ℕ → BookFault → Book → Type 0
IsUnsignedBelow before top q below message fault after =
    IsUnsigned before top.seed top.params (public_by below) fault after
    ⊎ ((between : Book) × (first : List ℕ) × (s : Signs before top.seed top.params (public_by below) first between)
    × (((fault ≡ Damaged) × (after ≡ between) × (s.leaf.leaf ≢ q))
    ⊎ ((s.leaf.leaf ≡ q)
    × (IsUnsigned between below.seed below.params message fault after
    ⊎ ((fault ≡ OutOfMemory) × ((last : List ℕ) × Signs between below.seed below.params message last after))))))
