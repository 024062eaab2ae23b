use Rattle.std.proofs.Common.{◌≡◌, ◌+◌, ◌<◌, ◌≤◌, ◌^◌}
use Rattle.granting.proofs.supporting.add_ticks.Given as goal

abbrev pub invariant-ticks : goal.invariant-ticks
invariant-ticks l = record {
  grows : l.fn.checks ≤ l.checks;
  none : l.count ≡ 0 → l.checks ≡ l.fn.checks;
  counted : l.fn.checks + l._made < 2 ^ 64 → l.checks ≡ l.fn.checks + l._made;
}
