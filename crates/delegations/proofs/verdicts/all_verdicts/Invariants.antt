use Rattle.std.proofs.Common.{◌≡◌, ◌+◌, length, map}
use Rattle.delegations.specs.Verdicts.{verdict_count}
use Rattle.delegations.specs.Views.{shelf_view, table_view}
use Rattle.delegations.specs.steps.Gathering.{AreGathered}
use Rattle.delegations.proofs.verdicts.all_verdicts.Given as goal

abbrev pub invariant-roles : goal.invariant-roles
invariant-roles l = record {
  gathered : AreGathered (shelf_view l.shelf) (map (λ e. e.0) l.rest) (table_view l.rows.items);
  room : l.room + verdict_count (table_view l.rows.items) ≡ 2048;
}

abbrev pub decreases-roles : goal.decreases-roles
decreases-roles l = length l.rest
