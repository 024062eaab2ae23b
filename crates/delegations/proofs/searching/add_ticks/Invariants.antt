use Rattle.std.proofs.Common.{◌≡◌, ◌+◌, ◌-◌, ◌≤◌}
use Rattle.delegations.proofs.searching.add_ticks.Given as goal

abbrev pub invariant-ticks : goal.invariant-ticks
invariant-ticks l = record {
  ticked : l.steps ≡ l.fn.steps + l.made;
  within : l.made ≤ l.count;
}

abbrev pub decreases-ticks : goal.decreases-ticks
decreases-ticks l = l.count - l.made
