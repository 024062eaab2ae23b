-- The rows of the two tables.
use Rattle.std.specs.Prelude.{◌≡◌, ◌⊎◌, ◌+◌, ℕ, pos, false, List, Result, Ok, Err, IsTrue}
use Rattle.sqlite.specs.declared.types.Value.TheVariants.{Int, Text, Blob}
use Rattle.sqlite.specs.Order.{Row, column}
use Rattle.sqlite.specs.Effect.{Database, IsDatabase}
use Rattle.sqlite.specs.State.{State}
use Rattle.sqlite_trees.specs.Tree.{Trees}
use Rattle.sqlite_rules.specs.Lists.{Has}
pub use Rattle.sql_tables.specs.Opening.{IsSettled}
use Rattle.lms.specs.Parameters.{height, ots_code, signing_type}
use Rattle.leaf_plans.specs.Book.{AreSame, Book, IsBook, LeafRow, Signer, no_book}
use Rattle.leaf_book.specs.declared.faults.BookFault.{BookFault}
use Rattle.leaf_book.specs.declared.faults.BookFault.TheVariants.{LeavesSpent, UnknownKey, Damaged, OtherTree, Database as Faulty, OutOfMemory}
use Rattle.leaf_book.specs.Faults.{IsOutside}
use Rattle.leaf_book.specs.Schema.{HasBoth, no_schema}

-- the cells of a row from column `n` on: the key id, the number of the LM-OTS type (RFC 8554, section 4.1), the height of the tree
abbrev pub IsSignerFrom : ℕ → Row → Signer → Type 0
IsSignerFrom n x s = (column x n ≡ Text s.key) × (column x (n + 1) ≡ Int (pos (ots_code s.params.ots))) × (column x (n + 2) ≡ Int (pos (height (signing_type s.params.height))))

-- the same of a leaf: the key id, the leaf's number, the message
abbrev pub IsLeafFrom : ℕ → Row → LeafRow → Type 0
IsLeafFrom n x e = (column x n ≡ Text e.key) × (column x (n + 1) ≡ Int (pos e.leaf)) × (column x (n + 2) ≡ Blob e.message)

-- each row is that of one of the values, and each value has its row
pub record AreRowsOf {V : Type 0} (IsRow : Row → V → Type 0) (rows : List Row) (values : List V) : Type 0 where
  pub each : (x : Row) → Has rows x → (v : V) × Has values v × IsRow x v
  pub all : (v : V) → Has values v → (x : Row) × Has rows x × IsRow x v

-- The trees of the two tables hold the rows of the book. Column 0 of a stored row is its rowid.
pub record HoldsBook (trees : Trees) (b : Book) : Type 0 where
  pub signers : AreRowsOf (IsSignerFrom 1) (trees 0) b.signers
  pub leaves : AreRowsOf (IsLeafFrom 1) (trees 2) b.leaves

-- between two statements: the connection is open and in no transaction, both tables are there, and hold the rows of the book
pub record IsRecorded (s : State) (b : Book) : Type 0 where
  pub is_open : IsTrue s.is_open
  pub autocommit : s.in_transaction ≡ false
  pub schema : HasBoth s.now.schema
  pub settled : s.now ≡ s.committed
  pub holds : HoldsBook s.now.trees b

-- What a database stands for: the rows of a book in its two tables, or no table at all, which is the empty book.
abbrev pub Stands : Database → Book → Type 0
Stands db b = (HasBoth db.schema × HoldsBook db.trees b) ⊎ ((db.schema ≡ no_schema) × (b ≡ no_book))

-- the same of trees, whose schema is read from them
abbrev pub TreesStand : Trees → Book → Type 0
TreesStand trees b = (db : Database) × (db.trees ≡ trees) × IsDatabase db × Stands db b

-- the database of these trees has the two tables, and their rows are those of no book that is in order
abbrev pub HoldsNoBook : Trees → Type 0
HoldsNoBook trees = (db : Database) × (db.trees ≡ trees) × IsDatabase db × HasBoth db.schema × ((b : Book) → IsBook b → HoldsBook db.trees b → ⊥)

-- What a crash leaves is a whole database of a book: it has both tables, and they hold the rows of the book.
abbrev pub HoldsWhole : Trees → Book → Type 0
HoldsWhole trees b = (db : Database) × (db.trees ≡ trees) × IsDatabase db × HasBoth db.schema × HoldsBook trees b

-- What an opening writes: where there was no table, both, with the rows of the empty book.
abbrev pub Begins : State → Trees → Type 0
Begins s trees = IsTrue s.is_open → (s.now.schema ≡ no_schema) × HoldsWhole trees no_book

-- ---- the next open

-- What an opening answers over a database of these trees: a book for which they stand, and `Damaged` only where both tables hold the rows
-- of no book. Of a fault of memory or of the database nothing is said.
abbrev pub OpensTo : Trees → Result Book BookFault → Type 0
OpensTo trees (Ok b) = IsBook b × TreesStand trees b
OpensTo trees (Err Damaged) = HoldsNoBook trees
OpensTo trees (Err LeavesSpent) = ⊥
OpensTo trees (Err UnknownKey) = ⊥
OpensTo trees (Err OtherTree) = ⊥
OpensTo trees (Err Faulty) = Unit {0}
OpensTo trees (Err OutOfMemory) = Unit {0}

-- an opening answers this book, with its entries in any order, faults of memory and of the database aside
abbrev pub Reopens : Book → Result Book BookFault → Type 0
Reopens b (Ok c) = AreSame b c
Reopens b (Err fault) = IsOutside fault

-- The database of these trees is that of the book, and whatever an opening answers over it is this book.
pub record Recovers (trees : Trees) (b : Book) : Type 0 where
  pub whole : HoldsWhole trees b
  pub reopens : (r : Result Book BookFault) → OpensTo trees r → Reopens b r
