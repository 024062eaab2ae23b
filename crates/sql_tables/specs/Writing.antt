-- SQL's test of the first cell of a row.
use Rattle.std.specs.Prelude.{ℕ, List, filter, not, Bool}
use Rattle.sqlite.specs.declared.types.Value.TheVariants.{Text}
use Rattle.sqlite.specs.Order.{Row, column}
use Rattle.sqlite_sql.specs.Ops.{binary, is_true}
use Rattle.sqlite_sql.specs.declared.ops.BinaryOp.TheVariants.{Compare}
use Rattle.sqlite_sql.specs.declared.ops.CompareOp.TheVariants.{Eq}
use Rattle.sqlite_value.specs.declared.keys.Collation.TheVariants.{Binary}

-- the first cell is this text, as SQL tests it
abbrev pub has_text : List ℕ → Row → Bool
has_text text c = is_true (binary (Compare Eq Binary) (column c 0) (Text text))

abbrev pub without_text : List ℕ → List Row → List Row
without_text text cells = filter (λ c. not (has_text text c)) cells
