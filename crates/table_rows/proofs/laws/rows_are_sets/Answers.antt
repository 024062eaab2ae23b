use Rattle.table_rows.proofs.SetLemmas.{same_rows}
use Rattle.table_rows.proofs.laws.rows_are_sets.Goals as goal

pub returns : goal.returns
returns c = same_rows
