use Rattle.std.proofs.Common.{length}
use Rattle.sql_tables.proofs.shape.+lack_name.Given as goal

abbrev pub decreases-lack_name : goal.decreases-lack_name
decreases-lack_name l = length l.described.now
