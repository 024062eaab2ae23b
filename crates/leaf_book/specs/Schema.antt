-- The two tables of the book as data, and the schemas that have them.
use Rattle.std.specs.Prelude.{[], ◌∷◌, codes, List}
use Rattle.sqlite.specs.Schema.{Schema}
use Rattle.sqlite.specs.Kind.TheVariants.{Integer, Text, Any}
use Rattle.sql_tables.specs.Described.{Description, HasAll, schema_of}
use Rattle.sql_tables.specs.declared.described.Key.TheVariants.{FirstUnique, Absent}

abbrev pub signer_table : Description
signer_table = record {
  name = codes "signer";
  columns = (codes "key", Text) ∷ (codes "ots", Integer) ∷ (codes "height", Integer) ∷ [];
  key = FirstUnique;
  uniques = (1 ∷ [], codes "sqlite_autoindex_signer_1") ∷ [];
  make = codes "CREATE TABLE signer (key TEXT NOT NULL PRIMARY KEY, ots INTEGER NOT NULL, height INTEGER NOT NULL)";
  look = codes "SELECT key FROM signer";
}

abbrev pub leaf_table : Description
leaf_table = record {
  name = codes "leaf";
  columns = (codes "key", Text) ∷ (codes "leaf", Integer) ∷ (codes "message", Any) ∷ [];
  key = Absent;
  uniques = (1 ∷ 2 ∷ [], codes "sqlite_autoindex_leaf_1") ∷ (1 ∷ 3 ∷ [], codes "sqlite_autoindex_leaf_2") ∷ [];
  make = codes "CREATE TABLE leaf (key TEXT NOT NULL, leaf INTEGER NOT NULL, message BLOB NOT NULL, UNIQUE (key, leaf), UNIQUE (key, message))";
  look = codes "SELECT key FROM leaf";
}

-- in the order in which they are made
abbrev pub two : List Description
two = signer_table ∷ leaf_table ∷ []

-- the two tables alone, as they are made
abbrev pub the_schema : Schema
the_schema = schema_of two

-- Both tables are there, first and in their order. Behind them may stand further tables, indexes and views, if no foreign key is onto
-- one of the two.
abbrev pub HasBoth : Schema → Type 0
HasBoth schema = HasAll two schema

abbrev pub no_schema : Schema
no_schema = record { tables = []; indexes = []; views = [] }
