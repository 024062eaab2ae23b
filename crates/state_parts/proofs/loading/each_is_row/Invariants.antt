use Rattle.std.proofs.Common.{length}
use Rattle.std.specs.Prelude.{◌↔◌, All}
use Rattle.delegations.specs.Views.{row_views}
use Rattle.trust_rules.specs.State.{IsShelfRow}
use Rattle.trust_rules.specs.steps.Loading.{RowsAreRead}
use Rattle.state_parts.proofs.loading.each_is_row.Given as goal

abbrev pub invariant-rows : goal.invariant-rows
invariant-rows l = record {
  read : RowsAreRead (row_views l.rest);
  same : (All IsShelfRow (row_views l.rest)) ↔ (All IsShelfRow (row_views l.rows));
}

abbrev pub decreases-rows : goal.decreases-rows
decreases-rows l = length l.rest
