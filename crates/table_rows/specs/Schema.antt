-- The six tables as data, and the schema that they are.
use Rattle.std.specs.Prelude.{◌≡◌, ◌⊎◌, ◌<◌, ◌≤◌, ◌^◌, ◌==◌, ◌&&◌, [], ◌∷◌, Bool, false, true, bytes_eq, codes, ◌||◌, if◌then◌else◌, is_some, not, option_and_then, slice_get, take, List, Option, None, Some, ℕ}
use Rattle.std.specs.List.{list_all, list_any, position_from}
use Rattle.sqlite.specs.Order.{Row}
use Rattle.sqlite.specs.Table.{Table}
use Rattle.sqlite_catalog.specs.Change.{next_tree}
use Rattle.sqlite_schema.specs.Names.{index_named, same_name, table_named, view_named}
use Rattle.sqlite_schema.specs.declared.schema.Reference.{Reference}
use Rattle.sqlite_trees.specs.Tree.{Trees}
use Rattle.sqlite.specs.Schema.{Schema}
use Rattle.sqlite.specs.Kind.TheVariants.{Integer, Text, Any}
use Rattle.sql_tables.specs.Described.{Description, HasAll, schema_of, table_of}
use Rattle.sql_tables.specs.Schema.{counted}
use Rattle.sql_tables.specs.declared.described.Key.TheVariants.{Rowid, FirstUnique}

abbrev pub root_table : Description
root_table = record {
  name = codes "root";
  columns = (codes "version", Integer) ∷ (codes "bytes", Any) ∷ [];
  key = Rowid;
  uniques = [];
  make = codes "CREATE TABLE root (version INTEGER NOT NULL PRIMARY KEY, bytes BLOB NOT NULL)";
  look = codes "SELECT version FROM root";
}

abbrev pub current_table : Description
current_table = record {
  name = codes "current";
  columns = (codes "slot", Text) ∷ (codes "version", Integer) ∷ (codes "bytes", Any) ∷ [];
  key = FirstUnique;
  uniques = (1 ∷ [], codes "sqlite_autoindex_current_1") ∷ [];
  make = codes "CREATE TABLE current (slot TEXT NOT NULL PRIMARY KEY, version INTEGER NOT NULL, bytes BLOB NOT NULL)";
  look = codes "SELECT version FROM current";
}

abbrev pub shelf_table : Description
shelf_table = record {
  name = codes "shelf";
  columns = (codes "role", Text) ∷ (codes "version", Integer) ∷ (codes "bytes", Any) ∷ [];
  key = FirstUnique;
  uniques = (1 ∷ 2 ∷ [], codes "sqlite_autoindex_shelf_1") ∷ [];
  make = codes "CREATE TABLE shelf (role TEXT NOT NULL, version INTEGER NOT NULL, bytes BLOB NOT NULL, PRIMARY KEY (role, version))";
  look = codes "SELECT version FROM shelf";
}

abbrev pub blob_table : Description
blob_table = record {
  name = codes "blob";
  columns = (codes "digest", Text) ∷ (codes "bytes", Any) ∷ [];
  key = FirstUnique;
  uniques = (1 ∷ [], codes "sqlite_autoindex_blob_1") ∷ [];
  make = codes "CREATE TABLE blob (digest TEXT NOT NULL PRIMARY KEY, bytes BLOB NOT NULL)";
  look = codes "SELECT digest FROM blob";
}

abbrev pub version_table : Description
version_table = record {
  name = codes "schema";
  columns = (codes "version", Integer) ∷ [];
  key = Rowid;
  uniques = [];
  make = codes "CREATE TABLE schema (version INTEGER NOT NULL PRIMARY KEY)";
  look = codes "SELECT version FROM schema";
}

-- what schema 2 has in place of `root`: the roots with their profiles
abbrev pub root2_table : Description
root2_table = record {
  name = codes "root2";
  columns = (codes "version", Integer) ∷ (codes "profile", Integer) ∷ (codes "bytes", Any) ∷ [];
  key = Rowid;
  uniques = [];
  make = codes "CREATE TABLE root2 (version INTEGER NOT NULL PRIMARY KEY, profile INTEGER NOT NULL, bytes BLOB NOT NULL)";
  look = codes "SELECT version FROM root2";
}

-- in the order in which they are made
abbrev pub six : List Description
six = root_table ∷ current_table ∷ shelf_table ∷ blob_table ∷ version_table ∷ root2_table ∷ []

-- Schema 2 has all six, of which `root` stays and is empty.
abbrev pub the_schema : Schema
the_schema = schema_of six

-- The first tables of the six, with their indexes: `current`, `shelf` and `blob`, the second to the fourth, have one each.
abbrev pub beginning : ℕ → Schema
beginning count = schema_of (take count six)

-- ---- schema 1

-- The tables of schema 1, which are the first of the six.
abbrev pub five : List Description
five = root_table ∷ current_table ∷ shelf_table ∷ blob_table ∷ version_table ∷ []

abbrev pub first_schema : Schema
first_schema = schema_of five

-- The five are there, in their order, whatever stands behind them, if no foreign key of it is onto one of the five.
abbrev pub HasFive : Schema → Type 0
HasFive = HasAll five

-- no foreign key is onto a table of the name `root2`
abbrev pub is_apart : List Reference → Bool
is_apart = list_all (λ (r : Reference). not (same_name (codes "root2") r.parent))

abbrev pub are_apart : List Table → Bool
are_apart = list_all (λ (t : Table). is_apart t.references)

-- the first table of a tree, by its place
abbrev pub first_at : List Table → ℕ → Option ℕ
first_at tables tree = position_from (λ (t : Table). t.tree == tree) 0 tables

-- a table of the tree has the name `root2`
abbrev pub are_alone : List Table → ℕ → Bool
are_alone tables tree = list_all (λ (t : Table). not (t.tree == tree) || bytes_eq t.name (codes "root2")) tables

-- No table is `sqlite_sequence`, where an AUTOINCREMENT wants it.
abbrev pub lacks_counters : Schema → Bool
lacks_counters schema = list_any (λ (t : Table). t.is_counted) schema.tables && not (is_some (table_named schema (codes "sqlite_sequence")))

-- The five are there, and `root2` can be made behind them and behind whatever follows them: the name is free, no foreign key waits for it,
-- and the tree that it gets is that of no table.
pub record IsFree (schema : Schema) : Type 0 where
  pub five : HasFive schema
  pub no_table : table_named schema (codes "root2") ≡ None
  pub no_index : index_named schema (codes "root2") ≡ None
  pub no_view : view_named schema (codes "root2") ≡ None
  pub apart : are_apart schema.tables ≡ true
  pub counters : lacks_counters schema ≡ false
  pub fresh : first_at schema.tables (next_tree schema) ≡ None
  pub behind : 8 ≤ next_tree schema
  pub low : next_tree schema < 2 ^ 31

-- ---- schema 2

-- `root2` is the first table of its name and of its tree, which is behind those of the five and no other table's, and nothing refers to it.
pub record HasSecond (schema : Schema) (place tree : ℕ) : Type 0 where
  pub named : table_named schema (codes "root2") ≡ Some place
  pub found : slice_get schema.tables place ≡ Some (table_of root2_table tree)
  pub first : first_at schema.tables tree ≡ Some place
  pub alone : are_alone schema.tables tree ≡ true
  pub apart : are_apart schema.tables ≡ true
  pub behind : 8 ≤ tree
  pub low : tree < 2 ^ 31

-- The six are there: the five first and in their order, and `root2` somewhere behind them. Further tables, indexes and views may stand before
-- `root2` and behind it, if none refers to one of the six.
abbrev pub HasSix : Schema → Type 0
HasSix schema = HasFive schema × (place : ℕ) × (tree : ℕ) × HasSecond schema place tree

-- The five are there, and `root2` can be made; or all six are: so many they are.
abbrev pub HasSome : ℕ → Schema → Type 0
HasSome count schema = ((count ≡ 5) × IsFree schema) ⊎ ((count ≡ 6) × HasSix schema)

-- So many of the six are there: some of the five in the order in which they are made, or none, and nothing else; the five, and `root2` can be
-- made; or all.
abbrev pub HasFirst : ℕ → Schema → Type 0
HasFirst count schema = ((count < 5) × (schema ≡ beginning count)) ⊎ HasSome count schema

abbrev pub IsBeginning : Schema → Type 0
IsBeginning schema = (count : ℕ) × HasFirst count schema

-- ---- the rows by tree

abbrev pub rows_at : Trees → Option Table → List Row
rows_at trees None = []
rows_at trees (Some t) = trees t.tree

-- the rows of the table of the name `root2`, and none where it is absent
abbrev pub root2_rows : Schema → Trees → List Row
root2_rows schema trees = rows_at trees (option_and_then (slice_get schema.tables) (table_named schema (codes "root2")))

-- The rows by the trees of `the_schema`, where a table that is absent counts as empty: those of `root2` are at tree 8, whatever tree it has.
abbrev pub held : Schema → Trees → Trees
held schema trees tree = if tree == 8 then root2_rows schema trees else counted schema trees tree
