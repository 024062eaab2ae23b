use Rattle.table_rows.proofs.SetLemmas.{one_set}
use Rattle.table_rows.proofs.laws.one_contents.Goals as goal

pub returns : goal.returns
returns c = one_set
