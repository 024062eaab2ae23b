use Rattle.std.proofs.Common.{length}
use Rattle.std.specs.List.{AllByRecursion}
use Rattle.document_parts.specs.Bodies.{IsListable}
use Rattle.metadata.specs.steps.Entries.{rows_view}
use Rattle.metadata.proofs.snapshot.are_listable.Given as goal

abbrev pub invariant-rows : goal.invariant-rows
invariant-rows l = record {
  ahead : AllByRecursion (λ e. IsListable e.0) (rows_view l.fn.rows) → AllByRecursion (λ e. IsListable e.0) (rows_view l.rest);
  back : AllByRecursion (λ e. IsListable e.0) (rows_view l.rest) → AllByRecursion (λ e. IsListable e.0) (rows_view l.fn.rows);
}

abbrev pub decreases-rows : goal.decreases-rows
decreases-rows l = length l.rest
