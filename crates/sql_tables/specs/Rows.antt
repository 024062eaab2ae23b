-- The rows of a table as a set of cells, whatever their rowids.
use Rattle.std.specs.Prelude.{◌≡◌, ℤ, List}
use Rattle.sqlite_rules.specs.Lists.{Has}
use Rattle.sqlite.specs.declared.types.Value.TheVariants.{Int}
use Rattle.sqlite.specs.Order.{Row}
use Rattle.sqlite_trees.specs.Tree.{rowid}

-- `shown` gives the cells of a row as it is stored
pub record AreRows (shown : Row → Row) (rows cells : List Row) : Type 0 where
  pub keyed : (x y : Row) → Has rows x → Has rows y → rowid x ≡ rowid y → x ≡ y
  pub numbered : (x : Row) → Has rows x → (n : ℤ) × (rowid x ≡ Int n)
  pub sound : (x : Row) → Has rows x → Has cells (shown x)
  pub complete : (c : Row) → Has cells c → (x : Row) × Has rows x × (shown x ≡ c)

-- at most one row for each key
abbrev pub AreKeyed : {K V : Type 0} → List (K × V) → Type 0
AreKeyed {K} {V} rows = (x y : K × V) → Has rows x → Has rows y → x.0 ≡ y.0 → x ≡ y
