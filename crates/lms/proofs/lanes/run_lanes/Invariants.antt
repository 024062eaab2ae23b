use Rattle.std.proofs.Common.{◌≡◌, ◌+◌}
use Rattle.lms.specs.steps.Lanes.{AreDone, all_left, ends}
use Rattle.lms.proofs.lanes.run_lanes.Given as goal

abbrev pub invariant-bursts : goal.invariant-bursts
invariant-bursts l = record {
  done : AreDone l.chains 0 l.start;
  ends : ends l.identifier l.q l.chains ≡ ends l.identifier l.q l.initial.chains;
  count : l.steps + all_left l.chains ≡ l.initial.steps + all_left l.initial.chains;
}

abbrev pub decreases-bursts : goal.decreases-bursts
decreases-bursts l = all_left l.chains
