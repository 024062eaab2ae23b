use Rattle.std.proofs.Common.{length}
use Rattle.sql_tables.proofs.shape.+after_all_indexes.Given as goal

abbrev pub decreases-after_all_indexes : goal.decreases-after_all_indexes
decreases-after_all_indexes l = length l.described.now
