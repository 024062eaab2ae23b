use Rattle.std.proofs.Common.{length}
use Rattle.std.specs.List.{AllByRecursion}
use Rattle.keys_roles.specs.steps.Counting.{IsKept}
use Rattle.keys_roles.specs.Views.{ids_view, table_view}
use Rattle.keys_roles.proofs.rotation.are_kept.Given as goal

abbrev pub invariant-ids : goal.invariant-ids
invariant-ids l = record {
  ahead : AllByRecursion (IsKept (table_view l.old_keys) (ids_view l.new) (table_view l.new_keys)) (ids_view l.fn.ids) → AllByRecursion (IsKept (table_view l.old_keys) (ids_view l.new) (table_view l.new_keys)) (ids_view l.rest);
  back : AllByRecursion (IsKept (table_view l.old_keys) (ids_view l.new) (table_view l.new_keys)) (ids_view l.rest) → AllByRecursion (IsKept (table_view l.old_keys) (ids_view l.new) (table_view l.new_keys)) (ids_view l.fn.ids);
}

abbrev pub decreases-ids : goal.decreases-ids
decreases-ids l = length l.rest
