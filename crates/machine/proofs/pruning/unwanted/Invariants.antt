use Rattle.std.proofs.Common.{◌≡◌, length, option_map}
use Rattle.metadata.specs.FileViews.{snapshot_file}
use Rattle.delegations.specs.Delegation.{before}
use Rattle.delegations.specs.Rows.{Rises}
use Rattle.delegations.specs.Views.{row_views}
use Rattle.granting.specs.PartViews.{length_views}
use Rattle.trust_rules.specs.steps.Pruning.{listed_rows, without_listed}
use Rattle.machine.proofs.pruning.unwanted.Given as goal

abbrev pub invariant-rows : goal.invariant-rows
invariant-rows l = record {
  order : Rises before (length_views l.left.items);
  left : without_listed (length_views l.left.items) (listed_rows (option_map snapshot_file l.fn.snapshot) (row_views l.rest))
      ≡ without_listed (length_views l.fn.lengths) (listed_rows (option_map snapshot_file l.fn.snapshot) (row_views l.fn.shelf));
}

abbrev pub decreases-rows : goal.decreases-rows
decreases-rows l = length l.rest
