-- What a call to a store does.
use Rattle.std.specs.Prelude.{◌≡◌, ◌⊎◌, ℕ, Result, Ok, Err, IsTrue}
use Rattle.sqlite.specs.State as database
use Rattle.sqlite.specs.State.{HasCleanDisk}
use Rattle.sqlite_trees.specs.Tree.{Trees}
use Rattle.trust_rules.specs.State.{State}
use Rattle.trust_rules.specs.Runs.{Command, Reply, Steps, Target, FileBytes, Refused}
use Rattle.sha2.specs.Sha256.{sha256}
use Rattle.machine.specs.Serving.{HasLayout, ListsDigest, is_by_layout}
use Rattle.sql_tables.specs.Outliving.{StaysOpen}
use Rattle.table_rows.specs.Tables.{HoldsWhole}
use Rattle.store.specs.Standing.{Holds, IsClean, Keeps, Moves, Standing, StandsAt, seen}
use Rattle.trust_rules.specs.Held.{Held}
use Rattle.store.specs.StateRows.{rows_of}
use Rattle.store.specs.Views.{reply_view}
use Rattle.table_rows.specs.declared.faults.StoreFault.{StoreFault}
use Rattle.table_rows.specs.declared.faults.StoreFault.TheVariants.{Damaged, Database, OutOfMemory}
use Rattle.store.specs.declared.command.Reply.{Reply as Answer}

-- the trees hold the rows of the state that the command leaves, in all six tables
abbrev pub HoldsStep : State → Command → ℕ → Trees → Type 0
HoldsStep S command now trees = (U : State) × (reply : Reply) × Steps S command now (U, reply) × HoldsWhole trees (rows_of U)

-- the same, and with this reply
abbrev pub HoldsReply : State → Command → ℕ → Reply → Trees → Type 0
HoldsReply S command now reply trees = (U : State) × Steps S command now (U, reply) × HoldsWhole trees (rows_of U)

-- the state from before the command, or one that its step leads to
abbrev pub IsEither : State → Command → ℕ → State → Type 0
IsEither S command now T = (T ≡ S) ⊎ ((reply : Reply) × Steps S command now (T, reply))

-- The step of the machine with its reply. The bytes of a target are read when they are asked for, and so are those of its layout and
-- links, so where the answers of the disk are not to be trusted, it is not known that they are those of the step. Whatever the disk
-- answers, bytes that are handed on have the SHA-256 that the state lists for the path, which is the one that is asked for, if one is.
abbrev pub Replies : Type 0 → State → Command → ℕ → State → Reply → Type 0
Replies trusted S (Target path asked) now T (FileBytes bytes) =
    (T ≡ S) × (trusted → Steps S (Target path asked) now (T, FileBytes bytes)) × ListsDigest S.trusted path asked now (sha256 bytes)
Replies trusted S (Target path asked) now T (Refused d i) =
    (T ≡ S) × ((IsTrue (is_by_layout d) → HasLayout S.trusted path now → trusted) → Steps S (Target path asked) now (T, Refused d i))
Replies trusted S command now T reply = Steps S command now (T, reply)

-- What a command makes of the state: the machine's step, whose reply is answered; and no change where memory was refused or a call of the
-- database answered a fault. No command finds damaged rows.
abbrev pub Makes : Standing → Standing → Command → ℕ → Result Answer StoreFault → Type 0
Makes A B command now (Ok reply) = Moves A B (λ S T. Replies (IsClean B) S command now T (reply_view reply)) × Holds A B
Makes A B command now (Err OutOfMemory) = Keeps A B
Makes A B command now (Err Database) = Keeps A B
Makes A B command now (Err Damaged) = ⊥

-- A command is made, and the store may be used on. A crash inside the call leaves the rows from before it or those from after it, and a crash after the call those of
-- the state at which the store then stands, each in trees that list all six tables.
pub record Applies (kept left : Held) (old new : database.State) (command : Command) (now : ℕ) (r : Result Answer StoreFault) : Type 0 where
  pub makes : Makes (seen kept old) (seen left new) command now r
  pub stays : StaysOpen old new
  pub crash : HasCleanDisk new → IsTrue old.is_open → (S : State) → StandsAt (seen kept old) S
      → (trees : Trees) → new.may_leave trees → HoldsWhole trees (rows_of S) ⊎ HoldsStep S command now trees
  pub durable : HasCleanDisk new → IsTrue new.is_open → (T : State) → StandsAt (seen left new) T
      → (trees : Trees) → new.may_leave trees → HoldsWhole trees (rows_of T)
