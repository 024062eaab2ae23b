use Rattle.std.proofs.Common.{length}
use Rattle.std.specs.Prelude.{IsSome}
use Rattle.std.specs.List.{AllByRecursion}
use Rattle.keys_roles.specs.Plain.{look_up}
use Rattle.metadata.specs.steps.Entries as rows
use Rattle.document_parts.specs.Views.{snapshot_view}
use Rattle.judging.proofs.compared.has_no_drop.Given as goal

abbrev pub invariant-rows : goal.invariant-rows
invariant-rows l = record {
  ahead : AllByRecursion (λ m. IsSome (look_up (snapshot_view l.new).meta m.0)) (rows.rows_view l.old.meta.items) → AllByRecursion (λ m. IsSome (look_up (snapshot_view l.new).meta m.0)) (rows.rows_view l.rest);
  back : AllByRecursion (λ m. IsSome (look_up (snapshot_view l.new).meta m.0)) (rows.rows_view l.rest) → AllByRecursion (λ m. IsSome (look_up (snapshot_view l.new).meta m.0)) (rows.rows_view l.old.meta.items);
}

abbrev pub decreases-rows : goal.decreases-rows
decreases-rows l = length l.rest
