use Rattle.std.proofs.Common.{◌≤◌, ◌-◌, length, map, take}
use Rattle.value_changes.specs.Views.{change_view}
use Rattle.change_lines.specs.Told.{InPieces}
use Rattle.change_lines.proofs.lines.told.Given as goal

abbrev pub invariant-changes : goal.invariant-changes
invariant-changes l = record {
  within : l.count ≤ length l.found;
  pieces : InPieces (map change_view (take l.count l.found)) l.lines.items;
}

abbrev pub decreases-changes : goal.decreases-changes
decreases-changes l = length l.found - l.count
