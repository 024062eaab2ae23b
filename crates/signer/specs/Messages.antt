-- Messages that get a signature, and what becomes of the book.
use Rattle.std.specs.Prelude.{◌≡◌, ◌⊎◌, ℕ, List, Ok, Err, IsTrue}
use Rattle.sqlite.specs.State.{HasCleanDisk, State}
use Rattle.sqlite_trees.specs.Tree.{Trees}
use Rattle.lms.specs.declared.Params.{Params}
use Rattle.lms.specs.declared.Seed.{Seed}
use Rattle.leaf_plans.specs.Book.{Book, key_of}
use Rattle.leaf_book.specs.Calls.{Registers, Reserved, Reserves, signature_by}
use Rattle.leaf_book.specs.Rows.{HoldsWhole}
use Rattle.leaf_book.specs.declared.faults.BookFault.{BookFault}
use Rattle.leaf_book.specs.declared.faults.BookFault.TheVariants.{LeavesSpent, UnknownKey, Damaged, OtherTree, Database, OutOfMemory}

-- The seed's key is registered, a leaf of its tree is reserved for the message, and the bytes are the signature of the message by this leaf.
pub record Signs (before : Book) (seed : Seed) (params : Params) (message signature : List ℕ) (after : Book) : Type 0 where
  pub registered : Book
  pub leaf : Reserved
  pub registers : Registers before seed params (Ok (key_of seed params)) registered
  pub reserves : Reserves registered (key_of seed params) message (Ok leaf) after
  pub own : leaf.params ≡ params
  pub signs : signature ≡ signature_by seed leaf

-- as far as that may have come: nothing was done, or the key is registered, or a leaf is reserved besides
abbrev pub IsBegun : Book → Seed → Params → List ℕ → Book → Type 0
IsBegun before seed params message after =
    (after ≡ before) ⊎ ((registered : Book) × Registers before seed params (Ok (key_of seed params)) registered
    × ((after ≡ registered) ⊎ ((leaf : Reserved) × Reserves registered (key_of seed params) message (Ok leaf) after)))

-- Why a message is not signed: the key is there with other parameters, or another tree of the seed is, or its leaves are spent and the
-- message has none. A key that was registered is known.
abbrev pub IsUnsigned : Book → Seed → Params → List ℕ → BookFault → Book → Type 0
IsUnsigned before seed params message Damaged after = Registers before seed params (Err Damaged) after
IsUnsigned before seed params message OtherTree after = Registers before seed params (Err OtherTree) after
IsUnsigned before seed params message LeavesSpent after =
    (registered : Book) × Registers before seed params (Ok (key_of seed params)) registered × Reserves registered (key_of seed params) message (Err LeavesSpent) after
IsUnsigned before seed params message UnknownKey after = ⊥
IsUnsigned before seed params message Database after = IsBegun before seed params message after
IsUnsigned before seed params message OutOfMemory after = IsBegun before seed params message after

-- What a crash inside a call leaves, or one after it, is the whole database of a book that the call makes.
abbrev pub CrashLeavesOf : State → State → (Book → Type 0) → Type 0
CrashLeavesOf old new IsMade =
    HasCleanDisk new → IsTrue old.is_open → (trees : Trees) → new.may_leave trees → (c : Book) × IsMade c × HoldsWhole trees c
