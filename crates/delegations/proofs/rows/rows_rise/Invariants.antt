use Rattle.std.proofs.Common.{◌≡◌, length}
use Rattle.delegations.specs.Rows.{place_before}
use Rattle.delegations.specs.RowViews.{row_views}
use Rattle.delegations.specs.steps.Rising.{rises}
use Rattle.delegations.proofs.rows.rows_rise.Given as goal

abbrev pub invariant-rows : goal.invariant-rows
invariant-rows l = rises place_before (row_views l.rest) ≡ rises place_before (row_views l.fn.rows)

abbrev pub decreases-rows : goal.decreases-rows
decreases-rows l = length l.rest
