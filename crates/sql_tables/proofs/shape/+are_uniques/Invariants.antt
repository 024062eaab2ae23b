use Rattle.std.proofs.Common.{length}
use Rattle.sql_tables.proofs.shape.+are_uniques.Given as goal

abbrev pub decreases-are_uniques : goal.decreases-are_uniques
decreases-are_uniques l = length l.lists.now
