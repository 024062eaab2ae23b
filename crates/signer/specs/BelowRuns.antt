-- Lists of signings by a key of two levels, with crashes, and that no two of its trees have leaves for two documents of one version.
use Rattle.std.specs.Prelude.{◌≡◌, ◌⊎◌, ℕ, List, [], ◌∷◌, Result}
use Rattle.lms.specs.declared.Params.{Params}
use Rattle.lms.specs.declared.Seed.{Seed}
use Rattle.lms.specs.HssKeys.{HssPair}
use Rattle.leaf_plans.specs.Book.{AreSame, Book, IsBook, Keeps}
use Rattle.leaf_book.specs.Calls.{Registers}
use Rattle.leaf_book.specs.declared.faults.BookFault.{BookFault}
use Rattle.signer.specs.Below.{IsUnder, below_of, top_of}
use Rattle.signer.specs.BelowOnce.{SignsBelowOnce}
use Rattle.signer.specs.Levels.{key_by}
use Rattle.signer.specs.Versions.{AreRivals}
use Rattle.signer.specs.declared.faults.SignOnceFault.{SignOnceFault}

-- the key is that of the top tree, or of a tree below one of its leaves
abbrev pub IsOfPair : HssPair → List ℕ → Type 0
IsOfPair p key = (key ≡ key_by (top_of p)) ⊎ ((q : ℕ) × (key ≡ key_by (below_of p q)))

-- no tree has leaves for two rivals, and no two have
abbrev pub HasNoRivalsBelow : HssPair → Book → Type 0
HasNoRivalsBelow p b = (key other m n : List ℕ) (k l : ℕ) → IsOfPair p key → IsOfPair p other → Keeps b key k m → Keeps b other l n → AreRivals m n → ⊥

-- A tree below has leaves in use only where a leaf of the top tree is kept for its key. A book has it in which the trees have signed by this
-- key of two levels alone, or not at all.
abbrev pub HasNamedTrees : HssPair → Book → Type 0
HasNamedTrees p b = (q leaf : ℕ) (message : List ℕ) → Keeps b (key_by (below_of p q)) leaf message → IsUnder b (key_by (top_of p)) (key_by (below_of p q))

-- What may happen. After a crash inside a call the book is the one before the call or one after it, whatever the call would have
-- answered; a crash elsewhere leaves the book. Opening the book again may give its entries in another order.
pub data Event : Type 0 where
  register : Seed → Params → Event
  sign_below_once : List ℕ → Event
  crash_in_register : Seed → Params → Event
  crash_in_sign_below_once : List ℕ → Event
  crash : Event
  reopen : Event

abbrev pub Happens : HssPair → Book → Event → Book → Type 0
Happens p b (register seed params) c = (r : Result (List ℕ) BookFault) × Registers b seed params r c
Happens p b (sign_below_once file) c = (r : Result (List ℕ) SignOnceFault) × SignsBelowOnce b p file r c
Happens p b (crash_in_register seed params) c = (c ≡ b) ⊎ ((r : Result (List ℕ) BookFault) × Registers b seed params r c)
Happens p b (crash_in_sign_below_once file) c = (c ≡ b) ⊎ ((r : Result (List ℕ) SignOnceFault) × SignsBelowOnce b p file r c)
Happens p b crash c = c ≡ b
Happens p b reopen c = AreSame b c × IsBook c

-- the events in turn
abbrev pub Runs : HssPair → Book → List Event → Book → Type 0
Runs p b [] d = d ≡ b
Runs p b (e ∷ es) d = (c : Book) × Happens p b e c × Runs p c es d
