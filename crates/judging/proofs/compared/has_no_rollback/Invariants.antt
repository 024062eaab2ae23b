use Rattle.std.proofs.Common.{length, ◌≤◌}
use Rattle.std.specs.Prelude.{IfSome}
use Rattle.std.specs.List.{AllByRecursion}
use Rattle.keys_roles.specs.Plain.{look_up}
use Rattle.metadata.specs.steps.Entries as rows
use Rattle.document_parts.specs.Views.{snapshot_view}
use Rattle.judging.proofs.compared.has_no_rollback.Given as goal

abbrev pub invariant-rows : goal.invariant-rows
invariant-rows l = record {
  ahead : AllByRecursion (λ m. IfSome (look_up (snapshot_view l.new).meta m.0) (λ e. m.1.version ≤ e.version)) (rows.rows_view l.old.meta.items) → AllByRecursion (λ m. IfSome (look_up (snapshot_view l.new).meta m.0) (λ e. m.1.version ≤ e.version)) (rows.rows_view l.rest);
  back : AllByRecursion (λ m. IfSome (look_up (snapshot_view l.new).meta m.0) (λ e. m.1.version ≤ e.version)) (rows.rows_view l.rest) → AllByRecursion (λ m. IfSome (look_up (snapshot_view l.new).meta m.0) (λ e. m.1.version ≤ e.version)) (rows.rows_view l.old.meta.items);
}

abbrev pub decreases-rows : goal.decreases-rows
decreases-rows l = length l.rest
