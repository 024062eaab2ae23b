use Rattle.std.proofs.Common.{length}
use Rattle.std.specs.List.{AllByRecursion}
use Rattle.keys_roles.specs.steps.Counting.{IsIn}
use Rattle.keys_roles.specs.Views.{ids_view}
use Rattle.keys_roles.proofs.rotation.are_listed.Given as goal

abbrev pub invariant-ids : goal.invariant-ids
invariant-ids l = record {
  ahead : AllByRecursion (IsIn (ids_view l.others)) (ids_view l.fn.ids) → AllByRecursion (IsIn (ids_view l.others)) (ids_view l.rest);
  back : AllByRecursion (IsIn (ids_view l.others)) (ids_view l.rest) → AllByRecursion (IsIn (ids_view l.others)) (ids_view l.fn.ids);
}

abbrev pub decreases-ids : goal.decreases-ids
decreases-ids l = length l.rest
