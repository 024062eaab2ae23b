-- The making of tables, and a look whether one has rows.
use Rattle.std.specs.Prelude.{◌≡◌, false, ℕ, pos, negsuc, List, [], Ok, Err, None, Result, IsTrue}
use Rattle.std.specs.List.{AllByRecursion}
use Rattle.sqlite.specs.Schema.{Schema}
use Rattle.sqlite.specs.Table.{Table}
use Rattle.sqlite_trees.specs.Tree.{Trees}
use Rattle.sqlite_catalog.specs.Change.{created}
use Rattle.sqlite_resolve.specs.Compile.{table_defined_by}
use Rattle.sqlite_resolve.specs.declared.compiled.Compiled.{Compiled}
use Rattle.sqlite_resolve.specs.declared.error.CompileError.{CompileError}
use Rattle.sqlite.specs.Command.TheVariants.{CreateTable, Select}
use Rattle.sqlite.specs.Listing.{understood, reads_listing}
use Rattle.sqlite.specs.Term.{Term, lit}
use Rattle.sqlite.specs.declared.types.Value.TheVariants.{Int}
use Rattle.sqlite_sql.specs.Query.{Query, inner, end}
use Rattle.sqlite.specs.Does.{lacks_sequence}
use Rattle.sqlite.specs.State.{State, text_of}

-- inside the transaction that makes the tables, where those that are there hold these rows
pub record IsMade (rows : Trees) (schema : Schema) (s : State) : Type 0 where
  pub is_open : IsTrue s.is_open
  pub inside : IsTrue s.in_transaction
  pub schema_is : s.now.schema ≡ schema
  pub holds : AllByRecursion (λ (t : Table). s.now.trees t.tree ≡ rows t.tree) schema.tables

abbrev pub MakesBy : Schema → List ℕ → Schema → Result Compiled CompileError → Type 0
MakesBy before sql after (Ok c) =
    (c.command ≡ CreateTable) × (c.returning ≡ None) × (c.formats ≡ []) × (made : Table) × (table_defined_by (text_of sql c) ≡ Ok made) × (created before made ≡ after) × (lacks_sequence after ≡ false)
MakesBy before sql after (Err e) = ⊥

-- the text makes one schema of the other
abbrev pub Makes : Schema → List ℕ → Schema → Type 0
Makes before sql after = MakesBy before sql after (understood before sql)

-- a query of all rows of the tree, that shows these terms of each
abbrev pub every_row : ℕ → List Term → Query
every_row tree terms = record {
  from = inner tree end;
  filter = [];
  group = None;
  project = terms;
  distinct = false;
  collations = [];
  order = [];
  limit = lit (Int (negsuc 0));
  offset = lit (Int (pos 0));
}

abbrev pub QueriesBy : ℕ → Result Compiled CompileError → Type 0
QueriesBy tree (Ok c) = (terms : List Term) × (names : List (List ℕ)) × (c.command ≡ Select (record { lets = []; body = every_row tree terms }) names) × (c.returning ≡ None) × (c.formats ≡ [])
QueriesBy tree (Err e) = ⊥

-- under this schema the text asks for all rows of the tree
abbrev pub Queries : Schema → List ℕ → ℕ → Type 0
Queries schema sql tree = QueriesBy tree (understood schema sql) × (reads_listing schema sql ≡ false)
