use Rattle.std.proofs.Common.{◌∙◌, List, MatchOption, take, subst, ap}
use Rattle.sql_tables.specs.Described.{Description, HasFirst, IsBeginning, described_view}
use Rattle.sql_tables.proofs.Shapes.{mapped_take}
use Rattle.table_rows.proofs.shape.first_of.Goals as goal

pub returns : goal.returns
returns c =
    subst (λ (ds : List Description). MatchOption c.beginning_of.result (IsBeginning ds c.args.schema.now → ⊥) (λ count. HasFirst ds count c.args.schema.now))
    (mapped_take described_view 5 c.six_tables-six.result ∙ ap (take 5) c.six_tables-six.ensures) c.beginning_of.ensures
