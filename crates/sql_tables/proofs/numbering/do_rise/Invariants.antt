use Rattle.std.proofs.Common.{◌≡◌, length}
use Rattle.sql_tables.specs.Loading.{rise}
use Rattle.sql_tables.proofs.numbering.do_rise.Given as goal

abbrev pub invariant-ids : goal.invariant-ids
invariant-ids l = rise l.rest ≡ rise l.ids

abbrev pub decreases-ids : goal.decreases-ids
decreases-ids l = length l.rest
