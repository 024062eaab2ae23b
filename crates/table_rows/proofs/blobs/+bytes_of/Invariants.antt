use Rattle.std.proofs.Common.{length}
use Rattle.table_rows.proofs.blobs.+bytes_of.Given as goal

abbrev pub decreases-bytes_of : goal.decreases-bytes_of
decreases-bytes_of l = length l.rows.now
