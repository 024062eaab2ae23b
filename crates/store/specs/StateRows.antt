-- What a store is to its callers, and the rows of a state.
use Rattle.std.specs.Prelude.{◌≡◌, ◌≢◌, ⊤, false, [], refl, Result, Ok, Err, IfOk, IsTrue}
use Rattle.std.specs.Coded.{Coded, code_by, coded×}
use Rattle.sqlite.specs.Held.{Held as Connection, held_code}
use Rattle.trust_rules.specs.State.{State, IsState}
use Rattle.trust_rules.specs.Held.{Held}
use Rattle.machine.specs.Room.{WithPlaces}
use Rattle.trust_rules.specs.Contents.{contents_of}
use Rattle.repository_rows.specs.Contents.{Contents}
use Rattle.sqlite.specs.Effect.{Database, IsDatabase}
use Rattle.sqlite_trees.specs.Tree.{Trees}
use Rattle.table_rows.specs.Schema.{IsBeginning}
use Rattle.table_rows.specs.Tables.{HoldsWhole, Stands}
use Rattle.table_rows.specs.declared.faults.StoreFault.{StoreFault}
use Rattle.table_rows.specs.declared.faults.StoreFault.TheVariants as faults
use Rattle.sqlite.specs.State as database
use Rattle.sqlite.specs.State.{HasCleanDisk}

-- what a caller sees of a store: its connection, and what it keeps in memory, its state but for the bytes of the target files
pub record Shown (S : Type 0) : Type 0 where
  pub conn : Connection S
  pub kept : Held

abbrev pub shown_code : {S : Type 0} → Coded S → Coded WithPlaces → Coded (Shown S)
shown_code {S} store kept =
    code_by (Connection S × WithPlaces) (coded× (held_code store) kept) (λ s. (s.conn, record { held = s.kept; room = 0; verdicts = [] }))
    (λ p. record { conn = p.0; kept = p.1.held }) (λ _. refl)

-- the rows of a state
abbrev pub rows_of : State → Contents
rows_of S = contents_of S

-- What the trees of a database stand for, whose schema is read from them: schema 2, or schema 1 with roots of profile 1. No table, or no row
-- in any, is the empty state.
abbrev pub TreesStand : Trees → Contents → Type 0
TreesStand trees t = (db : Database) × (db.trees ≡ trees) × IsDatabase db × Stands db t

-- The tables of a database of these trees are the first of the six, or all, and stand for the rows of no state.
abbrev pub HoldsNoState : Trees → Type 0
HoldsNoState trees =
    (db : Database) × (db.trees ≡ trees) × IsDatabase db × IsBeginning db.schema × ((S : State) → IsState S → Stands db (rows_of S) → ⊥)

-- What an opening of a database of these trees answers: a state for which they stand, and `Damaged` where they stand for none. Of when it
-- is another fault nothing is said.
abbrev pub OpensTo : Trees → Result State StoreFault → Type 0
OpensTo trees (Ok S) = IsState S × TreesStand trees (rows_of S)
OpensTo trees (Err faults.Damaged) = HoldsNoState trees
OpensTo trees (Err faults.Database) = ⊤
OpensTo trees (Err faults.OutOfMemory) = ⊤

-- But for a fault of the database or want of memory, each opening of these trees answers such a state. It is never `Damaged`.
abbrev pub Reopens : Trees → (State → Type 0) → Type 0
Reopens trees IsFound = (r : Result State StoreFault) → OpensTo trees r → (r ≢ Err faults.Damaged) × IfOk r (λ S. ∥ IsFound S ∥₁)

-- All six tables hold the rows of the state, and each opening of the trees answers it.
pub record Recovers (trees : Trees) (S : State) : Type 0 where
  pub whole : HoldsWhole trees (rows_of S)
  pub reopens : Reopens trees (λ V. V ≡ S)

-- What an opening writes: the connection was open, and all six tables hold the rows of the state for which its tables stood.
abbrev pub Begins : database.State → Trees → Type 0
Begins s trees = IsTrue s.is_open × ((S : State) × IsState S × Stands s.now (rows_of S) × HoldsWhole trees (rows_of S))

-- What a connection shows stands for the state: what was committed, while it is open, and once it is shut whatever a crash may leave.
pub record RestsAt (s : database.State) (S : State) : Type 0 where
  pub valid : IsState S
  pub committed : IsTrue s.is_open → TreesStand s.committed.trees (rows_of S)
  pub left : s.is_open ≡ false → (trees : Trees) → s.may_leave trees → TreesStand trees (rows_of S)

-- Whatever a crash leaves, then or earlier, stands for the state.
abbrev pub LeavesStanding : database.State → State → Type 0
LeavesStanding s S = HasCleanDisk s → (trees : Trees) → s.may_leave trees → TreesStand trees (rows_of S)
