use Rattle.std.proofs.Common.{length, map}
use Rattle.keys_roles.specs.steps.Counting.{IsIn}
use Rattle.metadata.specs.steps.Entries.{rows_view}
use Rattle.metadata.proofs.snapshot.names_row.Given as goal

abbrev pub invariant-rows : goal.invariant-rows
invariant-rows l = record {
  ahead : IsIn (map (λ e. e.0) (rows_view l.fn.rows)) l.name → IsIn (map (λ e. e.0) (rows_view l.rest)) l.name;
  back : IsIn (map (λ e. e.0) (rows_view l.rest)) l.name → IsIn (map (λ e. e.0) (rows_view l.fn.rows)) l.name;
}

abbrev pub decreases-rows : goal.decreases-rows
decreases-rows l = length l.rest
