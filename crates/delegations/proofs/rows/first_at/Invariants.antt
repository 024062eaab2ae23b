use Rattle.std.proofs.Common.{◌≡◌, length}
use Rattle.delegations.specs.Rows.{row_at}
use Rattle.delegations.specs.Views.{row_views}
use Rattle.delegations.proofs.rows.first_at.Given as goal

abbrev pub invariant-rows : goal.invariant-rows
invariant-rows l = row_at (row_views l.fn.rows) l.role l.version ≡ row_at (row_views l.rest) l.role l.version

abbrev pub decreases-rows : goal.decreases-rows
decreases-rows l = length l.rest
