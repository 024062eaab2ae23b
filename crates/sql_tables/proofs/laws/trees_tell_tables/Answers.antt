use Rattle.sql_tables.proofs.Listed.{same_tables, still_all}
use Rattle.sql_tables.proofs.laws.trees_tell_tables.Goals as goal

pub returns : goal.returns
returns c = record { tables = same_tables; all = still_all }
