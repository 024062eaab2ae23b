use Rattle.std.proofs.Common.{length}
use Rattle.sql_tables.proofs.shape.+are_further.Given as goal

abbrev pub decreases-are_further : goal.decreases-are_further
decreases-are_further l = length l.tables.now
