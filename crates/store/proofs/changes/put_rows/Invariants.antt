use Rattle.std.proofs.Common.{◌≡◌, length}
use Rattle.delegations.specs.Views.{row_views}
use Rattle.trust_rules.specs.Contents.{shelf_rows}
use Rattle.repository_tables.specs.Changes.{after_all}
use Rattle.repository_rows.specs.Contents.{Contents}
use Rattle.store.specs.steps.Changed.{more_rows}
use Rattle.store.proofs.changes.put_rows.Given as goal

abbrev pub invariant-rows : goal.invariant-rows
invariant-rows l = (t : Contents) → more_rows (shelf_rows (row_views l.rest)) (after_all l.changes.items t) ≡ more_rows (shelf_rows (row_views l.fn.rows)) (after_all l.initial.changes.items t)

abbrev pub decreases-rows : goal.decreases-rows
decreases-rows l = length l.rest
