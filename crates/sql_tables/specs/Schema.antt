-- Tables as SQL defines them, and the rows of a database in which some of them are absent.
use Rattle.sqlite.specs.Collation.TheVariants.{Binary}
use Rattle.std.specs.Prelude.{◌≡◌, true, false, [], ◌∷◌, Option, map, List, ℕ, ◌==◌, ◌||◌, Bool, if◌then◌else◌}
use Rattle.sqlite.specs.declared.types.Value.TheVariants.{Null}
use Rattle.sqlite.specs.Table.{Table}
use Rattle.sqlite_schema.specs.declared.schema.Column.{Column}
use Rattle.sqlite_schema.specs.declared.schema.Index.{Index}
use Rattle.sqlite_schema.specs.declared.schema.Stamps.{Stamps}
use Rattle.sqlite_value.specs.Keys.{plain}
use Rattle.sqlite.specs.Schema.{Schema}
use Rattle.sqlite.specs.Kind.{Kind}
use Rattle.sqlite_trees.specs.Tree.{Trees}

-- a column that is NOT NULL and has a type with an affinity
abbrev pub required : List ℕ → Kind → Column
required name kind = record { name = name; kind = kind; is_strict = false; not_null = true; default = Null; collation = Binary }

abbrev pub no_stamps : Stamps
no_stamps = record { places = []; terms = []; formats = [] }

abbrev pub table : List ℕ → List Column → Option ℕ → List ℕ → List (List ℕ) → ℕ → Table
table name columns key primary uniques tree = record {
  name = name;
  tree = tree;
  columns = columns;
  key = key;
  primary = primary;
  uniques = uniques;
  orders = map (λ _. plain) uniques;
  checks = [];
  references = [];
  computed = [];
  stamps = no_stamps;
  is_counted = false;
}

-- no CHECK, no reference, no default that is computed, and no AUTOINCREMENT
abbrev pub HasNoRule : Table → Type 0
HasNoRule t = (t.checks ≡ []) × (t.references ≡ []) × (t.computed ≡ []) × (t.stamps ≡ no_stamps) × (t.is_counted ≡ false)

abbrev pub unique_index : List ℕ → ℕ → ℕ → List ℕ → Index
unique_index name tree on columns = record { name = name; tree = tree; table = on; columns = columns; order = plain; is_unique = true }

-- one of the tables has this tree
abbrev pub is_there : List Table → ℕ → Bool
is_there [] tree = false
is_there (t ∷ ts) tree = (t.tree == tree) || is_there ts tree

-- the rows by tree, where a table that is absent counts as empty
abbrev pub counted : Schema → Trees → Trees
counted schema trees tree = if is_there schema.tables tree then trees tree else []
