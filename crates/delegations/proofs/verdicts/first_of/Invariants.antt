use Rattle.std.proofs.Common.{◌≡◌, length}
use Rattle.delegations.specs.Rows.{same_place, value_at}
use Rattle.delegations.specs.Views.{table_view}
use Rattle.delegations.proofs.verdicts.first_of.Given as goal

abbrev pub invariant-rows : goal.invariant-rows
invariant-rows l = value_at same_place (table_view l.fn.rows) (l.role, l.version) ≡ value_at same_place (table_view l.rest) (l.role, l.version)

abbrev pub decreases-rows : goal.decreases-rows
decreases-rows l = length l.rest
