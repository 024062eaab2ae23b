use Rattle.std.proofs.Common.{◌≡◌, ◌++◌, length, option_map}
use Rattle.metadata.specs.FileViews.{snapshot_file}
use Rattle.delegations.specs.Views.{row_views}
use Rattle.trust_rules.specs.steps.Pruning.{unlisted_places}
use Rattle.machine.proofs.pruning.unlisted_rows.Given as goal

abbrev pub invariant-rows : goal.invariant-rows
invariant-rows l =
    l.gone.items ++ unlisted_places (option_map snapshot_file l.fn.snapshot) (row_views l.rest)
    ≡ unlisted_places (option_map snapshot_file l.fn.snapshot) (row_views l.fn.shelf)

abbrev pub decreases-rows : goal.decreases-rows
decreases-rows l = length l.rest
