use Rattle.std.proofs.Common.{length}
use Rattle.std.specs.Prelude.{IsTrue, is_some}
use Rattle.std.specs.List.{AllByRecursion}
use Rattle.metadata.specs.steps.Entries as rows
use Rattle.delegations.specs.Rows.{named_row}
use Rattle.delegations.specs.Views.{rows_view}
use Rattle.judging.proofs.compared.holds_all.Given as goal

abbrev pub invariant-rows : goal.invariant-rows
invariant-rows l = record {
  ahead : AllByRecursion (λ m. IsTrue (is_some (named_row (rows_view l.rows) m.0 m.1))) (rows.rows_view l.snapshot.body.meta.items) → AllByRecursion (λ m. IsTrue (is_some (named_row (rows_view l.rows) m.0 m.1))) (rows.rows_view l.rest);
  back : AllByRecursion (λ m. IsTrue (is_some (named_row (rows_view l.rows) m.0 m.1))) (rows.rows_view l.rest) → AllByRecursion (λ m. IsTrue (is_some (named_row (rows_view l.rows) m.0 m.1))) (rows.rows_view l.snapshot.body.meta.items);
}

abbrev pub decreases-rows : goal.decreases-rows
decreases-rows l = length l.rest
