use Rattle.std.proofs.Common.{◌≡◌, ℕ, ◌+◌, ◌*◌, ◌<◌}
use Rattle.lms.specs.steps.Lanes.{IsAhead, chain_at}
use Rattle.lms.proofs.lanes.run_four.Given as goal

abbrev pub invariant-steps : goal.invariant-steps
invariant-steps l = record {
  ahead : (i : ℕ) → i < 4 → IsAhead l.identifier l.q l._t (chain_at l.initial.lanes i) (chain_at l.lanes i);
  count : l.steps ≡ l.initial.steps + 4 * l._t;
}
