-- The databases that are brought to schema 2.
use Rattle.std.specs.Prelude.{◌≡◌, ◌⊎◌, [], IsTrue}
use Rattle.sqlite.specs.State.{State}
use Rattle.repository_rows.specs.Contents.{Contents}
use Rattle.table_rows.specs.Schema.{held, HasSix, IsFree}
use Rattle.table_rows.specs.Tables.{HoldsFirst, HoldsTables}

-- Between two transactions, the tables hold these rows and are not those of schema 2 yet. The five are there, and after
-- them `root2` can be made, or all six are; what is absent counts as empty. The row of `schema` is 1; or it is 2 and there is no root.
pub record IsEarlier (s : State) (t : Contents) : Type 0 where
  pub is_open : IsTrue s.is_open
  pub schema : IsFree s.now.schema ⊎ HasSix s.now.schema
  pub settled : s.now ≡ s.committed
  pub holds : HoldsFirst (held s.now.schema s.now.trees) t ⊎ HoldsTables (held s.now.schema s.now.trees) t
  pub lacks : held s.now.schema s.now.trees 8 ≡ []
