use Rattle.std.proofs.Common.{◌≡◌, length}
use Rattle.repository_tables.specs.Changes.{after_all}
use Rattle.repository_rows.specs.Contents.{Contents}
use Rattle.store.specs.steps.Changed.{rows_gone}
use Rattle.store.proofs.changes.drop_rows.Given as goal

abbrev pub invariant-rows : goal.invariant-rows
invariant-rows l = (t : Contents) → rows_gone l.rest (after_all l.changes.items t) ≡ rows_gone l.fn.gone (after_all l.initial.changes.items t)

abbrev pub decreases-rows : goal.decreases-rows
decreases-rows l = length l.rest
