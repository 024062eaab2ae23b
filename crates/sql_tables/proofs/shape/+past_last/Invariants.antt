use Rattle.std.proofs.Common.{length}
use Rattle.sql_tables.proofs.shape.+past_last.Given as goal

abbrev pub decreases-past_last : goal.decreases-past_last
decreases-past_last l = length l.described.now
