use Rattle.std.proofs.Common.{◌≡◌, ◌≤◌, ◌+◌, ◌*◌, ◌++◌, drop, vec_len, vec_capacity}
use Rattle.lms.specs.steps.Lanes.{all_ends}
use Rattle.lms.proofs.signing.put_ends.Given as goal

abbrev pub invariant-ends : goal.invariant-ends
invariant-ends l = record {
  items : l.out.items ++ all_ends l.identifier l.q (drop l.c-index l.chains) ≡ l.initial.out.items ++ all_ends l.identifier l.q l.chains;
  len : vec_len l.out ≡ vec_len l.initial.out + 32 * l.c-index;
  capacity : vec_capacity l.initial.out ≤ vec_capacity l.out;
}
