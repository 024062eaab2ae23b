use Rattle.std.proofs.Common.{length}
use Rattle.sql_tables.proofs.shape.+after_indexes.Given as goal

abbrev pub decreases-after_indexes : goal.decreases-after_indexes
decreases-after_indexes l = length l.uniques.now
