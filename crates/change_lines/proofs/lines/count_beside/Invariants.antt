use Rattle.std.proofs.Common.{map, take}
use Rattle.std.specs.List.{AllByRecursion}
use Rattle.value_changes.specs.Views.{change_view}
use Rattle.change_lines.specs.Told.{AreTogether}
use Rattle.change_lines.proofs.lines.count_beside.Given as goal

abbrev pub invariant-changes : goal.invariant-changes
invariant-changes l = AllByRecursion (AreTogether (change_view l.first)) (map change_view (take l.index l.rest))
