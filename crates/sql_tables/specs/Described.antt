-- Tables as data: a list of descriptions is a schema.
use Rattle.std.specs.Prelude.{◌≡◌, ◌⊎◌, ◌+◌, ◌<◌, ◌≤◌, ℕ, zero, suc, List, [], ◌∷◌, ◌++◌, Option, None, Some, false, map, length, take, slice_index_or}
use Rattle.std.specs.List.{AllByRecursion}
use Rattle.sqlite.specs.Kind.{Kind}
use Rattle.sqlite.specs.Table.{Table}
use Rattle.sqlite.specs.Schema.{Schema}
use Rattle.sqlite_schema.specs.declared.schema.Column.{Column}
use Rattle.sqlite_schema.specs.Names.{same_name}
use Rattle.sqlite_schema.specs.declared.schema.Index.{Index}
use Rattle.sqlite_schema.specs.declared.schema.Reference.{Reference}
use Rattle.sqlite_trees.specs.Tree.{Trees}
use Rattle.sqlite_catalog.specs.Change.{next_tree}
use Rattle.sql_tables.specs.declared.described.Described.{Described}
use Rattle.sql_tables.specs.declared.described.Key.{Key}
use Rattle.sql_tables.specs.declared.described.Key.TheVariants.{Rowid, FirstUnique, Absent}
use Rattle.sql_tables.specs.Schema.{required, table, unique_index}
use Rattle.sql_tables.specs.Making.{Makes, Queries}

-- what `Described` of the code says, and its doc explains
pub record Description : Type 0 where
  pub name : List ℕ
  pub columns : List (List ℕ × Kind)
  pub key : Key
  pub uniques : List (List ℕ × List ℕ)
  pub make : List ℕ
  pub look : List ℕ

abbrev pub described_view : Described → Description
described_view d = record {
  name = d.name.now;
  columns = map (λ c. (c.0.now, c.1)) d.columns.now;
  key = d.key;
  uniques = map (λ u. (u.0.now, u.1.now)) d.uniques.now;
  make = d.make.now;
  look = d.look.now;
}

-- ---- the schema of a list

abbrev pub columns_of : List (List ℕ × Kind) → List Column
columns_of columns = map (λ c. required c.0 c.1) columns

-- the column that is the rowid, by its place from 0
abbrev pub rowid_of : Key → Option ℕ
rowid_of Rowid = Some 0
rowid_of FirstUnique = None
rowid_of Absent = None

-- the columns of the primary key, as SQL counts them: the first is 1, and the rowid is 0
abbrev pub primary_of : Key → List (List ℕ × List ℕ) → List ℕ
primary_of Rowid us = 0 ∷ []
primary_of FirstUnique [] = []
primary_of FirstUnique (u ∷ us) = u.0
primary_of Absent us = []

abbrev pub places_of : List (List ℕ × List ℕ) → List (List ℕ)
places_of us = map (λ u. u.0) us

-- the table at a tree
abbrev pub table_of : Description → ℕ → Table
table_of d = table d.name (columns_of d.columns) (rowid_of d.key) (primary_of d.key d.uniques) (places_of d.uniques)

-- each UNIQUE of a table has an index, at the trees behind that of the table
abbrev pub indexes_at : ℕ → List (List ℕ × List ℕ) → ℕ → List Index
indexes_at on [] tree = []
indexes_at on (u ∷ us) tree = unique_index u.1 tree on u.0 ∷ indexes_at on us (tree + 1)

-- the tree behind those of the table and its indexes
abbrev pub past_table : Description → ℕ → ℕ
past_table d tree = tree + 1 + length d.uniques

abbrev pub tables_from : ℕ → List Description → List Table
tables_from tree [] = []
tables_from tree (d ∷ ds) = table_of d tree ∷ tables_from (past_table d tree) ds

abbrev pub indexes_from : ℕ → List Description → List Index
indexes_from tree [] = []
indexes_from tree (d ∷ ds) = indexes_at tree d.uniques (tree + 1) ++ indexes_from (past_table d tree) ds

-- the tables in their order, from tree 0 on, and nothing else
abbrev pub schema_of : List Description → Schema
schema_of ds = record { tables = tables_from 0 ds; indexes = indexes_from 0 ds; views = [] }

-- the tree behind those of all tables
abbrev pub past_all : ℕ → List Description → ℕ
past_all tree [] = tree
past_all tree (d ∷ ds) = past_all (past_table d tree) ds

-- the first tables
abbrev pub beginning : List Description → ℕ → Schema
beginning ds count = schema_of (take count ds)

-- the tables of a list with their indexes, and what stands behind them
abbrev pub followed : List Description → Schema → Schema
followed ds further = record { tables = tables_from 0 ds ++ further.tables; indexes = indexes_from 0 ds ++ further.indexes; views = further.views }

-- No foreign key of the table is onto one of the list: none of them has the name of its parent.
abbrev pub RefersToNone : List Description → Table → Type 0
RefersToNone ds t = AllByRecursion (λ (r : Reference). AllByRecursion (λ (d : Description). same_name d.name r.parent ≡ false) ds) t.references

-- a table that may stand behind those of a list: it has none of their trees, and refers to none of them
pub record IsFurther (ds : List Description) (t : Table) : Type 0 where
  pub behind : past_all 0 ds ≤ t.tree
  pub apart : RefersToNone ds t

-- All tables of the list are there, first and in their order. Further tables, indexes and views may stand behind them.
abbrev pub HasAll : List Description → Schema → Type 0
HasAll ds schema = (further : Schema) × (schema ≡ followed ds further) × AllByRecursion (IsFurther ds) further.tables

-- So many of the tables are there, the first in the order in which they are made: not all and nothing else, or all.
abbrev pub HasFirst : List Description → ℕ → Schema → Type 0
HasFirst ds count schema = ((count < length ds) × (schema ≡ beginning ds count)) ⊎ ((count ≡ length ds) × HasAll ds schema)

-- none, some or all
abbrev pub IsBeginning : List Description → Schema → Type 0
IsBeginning ds schema = (count : ℕ) × HasFirst ds count schema

-- no row in any table
abbrev pub AreEmpty : Schema → Trees → Type 0
AreEmpty schema trees = AllByRecursion (λ (t : Table). trees t.tree ≡ []) schema.tables

-- ---- what the texts mean

abbrev pub nothing : Description
nothing = record { name = []; columns = []; key = Absent; uniques = []; make = []; look = [] }

abbrev pub at_place : List Description → ℕ → Description
at_place ds n = slice_index_or ds n nothing

-- the tree of the table at a place
abbrev pub tree_from : ℕ → List Description → ℕ → ℕ
tree_from tree [] n = tree
tree_from tree (d ∷ ds) zero = tree
tree_from tree (d ∷ ds) (suc n) = tree_from (past_table d tree) ds n

-- each text makes its table behind those before it
abbrev pub AllMake : List Description → Type 0
AllMake ds = (n : ℕ) → n < length ds → Makes (beginning ds n) (at_place ds n).make (beginning ds (n + 1)) × (next_tree (beginning ds n) ≡ tree_from 0 ds n)

-- where all are there, each text asks for the rows of its table
abbrev pub AllLook : List Description → Type 0
AllLook ds = (n : ℕ) → n < length ds → Queries (schema_of ds) (at_place ds n).look (tree_from 0 ds n)

-- no table behind the first ones has a row
abbrev pub LacksRest : List Description → ℕ → Trees → Type 0
LacksRest ds count rows = (n : ℕ) → count ≤ n → n < length ds → rows (tree_from 0 ds n) ≡ []
