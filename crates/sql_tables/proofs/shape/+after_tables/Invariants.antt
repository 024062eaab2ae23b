use Rattle.std.proofs.Common.{length}
use Rattle.sql_tables.proofs.shape.+after_tables.Given as goal

abbrev pub decreases-after_tables : goal.decreases-after_tables
decreases-after_tables l = length l.described.now
