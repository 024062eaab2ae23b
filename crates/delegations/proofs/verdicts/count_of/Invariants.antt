use Rattle.std.proofs.Common.{◌≡◌, ◌+◌, length}
use Rattle.delegations.specs.Verdicts.{verdict_count}
use Rattle.delegations.specs.Views.{table_view}
use Rattle.delegations.proofs.verdicts.count_of.Given as goal

abbrev pub invariant-rows : goal.invariant-rows
invariant-rows l = l.count + verdict_count (table_view l.rest) ≡ verdict_count (table_view l.fn.rows)

abbrev pub decreases-rows : goal.decreases-rows
decreases-rows l = length l.rest
