-- Where a store stands: a state that it stands for, and the rows of that state in the tables.
use Rattle.std.specs.Prelude.{◌≡◌, Bool, IsTrue, Ok}
use Rattle.sqlite.specs.Effect.{Database}
use Rattle.sqlite.specs.State as connection
use Rattle.sqlite_trees.specs.View.{doubt}
use Rattle.trust_rules.specs.State.{State, IsState}
use Rattle.trust_rules.specs.Held.{Held, held_of}
use Rattle.table_rows.specs.Schema.{held, HasSix}
use Rattle.table_rows.specs.Tables.{HoldsTables}
use Rattle.store.specs.StateRows.{OpensTo, rows_of}

-- what a store keeps in memory, and what its connection shows of the database
pub record Standing : Type 0 where
  pub kept : Held
  -- as the connection sees it, and as the last commit left it
  pub database : Database
  pub committed : Database
  pub is_open : Bool
  -- no wrong answer of the disk was taken as true
  pub is_clean : Bool

abbrev pub seen : Held → connection.State → Standing
seen kept s = record { kept = kept; database = s.now; committed = s.committed; is_open = s.is_open; is_clean = s.is_clean }

abbrev pub IsClean : Standing → Type 0
IsClean A = doubt A.is_clean ≡ 0

-- what is kept is that of this state, whatever the bytes of its target files are
pub record IsStateOf (kept : Held) (S : State) : Type 0 where
  pub valid : IsState S
  pub held : held_of S ≡ kept

-- between two transactions: the six tables are there, and hold the rows of the state
pub record HoldsRows (A : Standing) (S : State) : Type 0 where
  pub schema : HasSix A.database.schema
  pub settled : A.database ≡ A.committed
  pub holds : HoldsTables (held A.database.schema A.database.trees) (rows_of S)

-- a store stands at a state: what it keeps is that of the state, and while the connection is open the tables hold its rows
pub record StandsAt (A : Standing) (S : State) : Type 0 where
  pub state : IsStateOf A.kept S
  pub rows : IsClean A → IsTrue A.is_open → HoldsRows A S

-- for each state at which a store stood there is one at which it stands then, and this is so related to the first
abbrev pub Moves : Standing → Standing → (State → State → Type 0) → Type 0
Moves A B Between = (S : State) → StandsAt A S → (T : State) × StandsAt B T × Between S T

-- the state is kept
pub record Keeps (A B : Standing) : Type 0 where
  pub state : Moves A B (λ S T. T ≡ S)
  pub clean : IsClean B → IsClean A

-- a command was answered: the connection was open and is, so the tables hold the rows of the state
pub record Holds (A B : Standing) : Type 0 where
  pub clean : IsClean B → IsClean A
  pub is_open : IsClean B → IsTrue A.is_open × IsTrue B.is_open

-- What an open gives: the connection is open, and the store stands at a state for which the database stood.
abbrev pub Opens : connection.State → Standing → Type 0
Opens old A = (S : State) × StandsAt A S × (IsClean A → IsTrue A.is_open × OpensTo old.committed.trees (Ok S))
