-- What the tables of a list hold inside a transaction, cell by cell.
use Rattle.std.specs.Prelude.{◌+◌, ◌<◌, ℕ, zero, suc, List, [], ◌∷◌, length, slice_index_or, IsTrue}
use Rattle.sqlite.specs.Kind.{Kind}
use Rattle.sqlite.specs.Order.{Row, column}
use Rattle.sqlite.specs.State.{State}
use Rattle.sql_tables.specs.Rows.{AreRows}
use Rattle.sql_tables.specs.declared.described.Key.{Key}
use Rattle.sql_tables.specs.declared.described.Key.TheVariants.{Rowid, FirstUnique, Absent}
use Rattle.sql_tables.specs.Described.{Description, HasAll, at_place, tree_from}

abbrev pub columns_from : ℕ → List (List ℕ × Kind) → Row → Row
columns_from n [] r = []
columns_from n (c ∷ cs) r = column r n ∷ columns_from (n + 1) cs r

-- Column 0 of a stored row is the rowid, which a first column that is the rowid has as its value.
abbrev pub shown_by : Key → List (List ℕ × Kind) → Row → Row
shown_by Rowid [] r = []
shown_by Rowid (c ∷ cs) r = column r 0 ∷ columns_from 2 cs r
shown_by FirstUnique cs r = columns_from 1 cs r
shown_by Absent cs r = columns_from 1 cs r

-- the cells of a stored row
abbrev pub shown_of : Description → Row → Row
shown_of d = shown_by d.key d.columns

-- the cells of each table by its place
abbrev pub cells_at : List (List Row) → ℕ → List Row
cells_at cells n = slice_index_or cells n []

abbrev pub put_at : ℕ → List Row → List (List Row) → List (List Row)
put_at n rows [] = []
put_at zero rows (c ∷ cs) = rows ∷ cs
put_at (suc n) rows (c ∷ cs) = c ∷ put_at n rows cs

pub record IsInside (ds : List Description) (s : State) (cells : List (List Row)) : Type 0 where
  pub is_open : IsTrue s.is_open
  pub inside : IsTrue s.in_transaction
  pub schema : HasAll ds s.now.schema
  pub holds : (n : ℕ) → n < length ds → AreRows (shown_of (at_place ds n)) (s.now.trees (tree_from 0 ds n)) (cells_at cells n)
