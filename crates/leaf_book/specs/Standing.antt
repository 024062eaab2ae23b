-- Where a book stands over its database, and what a call leaves of it, as far as the disk has returned what was written (`HasCleanDisk`).
use Rattle.std.specs.Prelude.{◌⊎◌, Result, OnOk, IsTrue}
use Rattle.sqlite.specs.State.{State, HasCleanDisk}
use Rattle.sqlite_trees.specs.Tree.{Trees}
use Rattle.leaf_plans.specs.Book.{Book}
use Rattle.leaf_book.specs.Rows.{HoldsWhole, IsRecorded}
use Rattle.leaf_book.specs.declared.faults.BookFault.{BookFault}

-- while the connection is open, the tables hold the rows of the book,
abbrev pub RestsOn : State → Book → Type 0
RestsOn s b = HasCleanDisk s → IsTrue s.is_open → IsRecorded s b

-- and a crash leaves just these
abbrev pub LeavesOnly : State → Book → Type 0
LeavesOnly s b = HasCleanDisk s → IsTrue s.is_open → (trees : Trees) → s.may_leave trees → HoldsWhole trees b

-- where the disk has returned what was written up to the end of a call, it had before it
abbrev pub StaysClean : State → State → Type 0
StaysClean old new = HasCleanDisk new → HasCleanDisk old

-- what is answered without a fault comes of an open connection, which is open still
abbrev pub WasOpen : {A : Type 0} → State → State → Result A BookFault → Type 0
WasOpen old new r = HasCleanDisk new → OnOk r (IsTrue old.is_open × IsTrue new.is_open)

-- A crash within a call leaves the book before it, or one that the call makes of it, whatever it would have answered.
abbrev pub CrashLeaves : {R : Type 0} → State → State → Book → (R → Book → Type 0) → Type 0
CrashLeaves {R} old new b Makes =
    HasCleanDisk new → IsTrue old.is_open → (trees : Trees) → new.may_leave trees
    → HoldsWhole trees b ⊎ ((r : R) × (c : Book) × Makes r c × HoldsWhole trees c)

-- the same where the call makes this one book
abbrev pub CrashLeavesEither : State → State → Book → Book → Type 0
CrashLeavesEither old new b c = HasCleanDisk new → IsTrue old.is_open → (trees : Trees) → new.may_leave trees → HoldsWhole trees b ⊎ HoldsWhole trees c
