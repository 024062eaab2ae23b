-- What the opening of a database asks of it, what it finds there, and what it leaves, as far as the disk has returned what was written
-- (`HasCleanDisk`).
use Rattle.std.specs.Prelude.{◌≡◌, true, false, Bool, Result, Err, OnOk, IsTrue}
use Rattle.sqlite.specs.State.{State, HasCleanDisk, KeepsCommit}
use Rattle.sqlite_trees.specs.Tree.{Trees}
use Rattle.repository_rows.specs.Contents.{Contents, no_rows}
use Rattle.table_rows.specs.Schema.{held, IsBeginning}
use Rattle.table_rows.specs.Tables.{AreBare, HaveDigests, HoldsWhole, IsFit, IsStore, Stands}
use Rattle.table_rows.specs.declared.faults.StoreFault.{StoreFault}
use Rattle.table_rows.specs.declared.faults.StoreFault.TheVariants as faults
use Rattle.repository_tables.specs.Migration.{IsEarlier}
pub use Rattle.sql_tables.specs.Opening.{IsSettled}

-- ---- what is there

-- the trees of the six tables
abbrev pub six_of : State → Trees
six_of s = held s.now.schema s.now.trees

-- none of the tables that are there has a row
abbrev pub IsEmpty : State → Type 0
IsEmpty s = AreBare (six_of s)

-- what stands for no rows yet: no table of the six, some or all, without a row
abbrev pub StandsEmpty : State → Type 0
StandsEmpty s = IsBeginning s.now.schema × IsEmpty s

-- ---- what an opening answers

-- Rows: the database stood for them, if what it showed was committed. A store with these rows is left, or an earlier one, which is to be
-- brought to schema 2.
abbrev pub StoodFor : State → State → Bool → Contents → Type 0
StoodFor old new is_earlier t = HasCleanDisk new → IsSettled old → Stands old.now t × (is_earlier ≡ false → IsStore new t) × (is_earlier ≡ true → IsEarlier new t)

-- rows: the database was open
abbrev pub WasOpen : {A : Type 0} → State → State → Result A StoreFault → Type 0
WasOpen old new r = HasCleanDisk new → OnOk r (IsTrue old.is_open)

-- `Damaged`: it was open,
abbrev pub FoundOpen : {A : Type 0} → State → State → Result A StoreFault → Type 0
FoundOpen old new r = HasCleanDisk new → r ≡ Err faults.Damaged → IsTrue old.is_open

-- what is committed stayed,
abbrev pub KeptDamaged : {A : Type 0} → State → State → Result A StoreFault → Type 0
KeptDamaged old new r = HasCleanDisk new → r ≡ Err faults.Damaged → KeepsCommit old new

-- and it stood for no rows that fit their columns, and whose target files have their digests
abbrev pub StoodForNone : {A : Type 0} → State → State → Result A StoreFault → Type 0
StoodForNone old new r = HasCleanDisk new → r ≡ Err faults.Damaged → (t : Contents) → IsFit t → HaveDigests t → Stands old.now t → ⊥

-- ---- what a crash leaves beside what was committed: where all was empty, the empty store
abbrev pub BeginsAt : State → Trees → Type 0
BeginsAt old trees = IsTrue old.is_open × IsEmpty old × HoldsWhole trees no_rows
