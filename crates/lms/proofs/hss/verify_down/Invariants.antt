use Rattle.std.proofs.Common.{◌-◌, ◌*◌, ◌≤◌}
use Rattle.lms.proofs.HssReadings.{HasTaken, IsAsFar}
use Rattle.lms.proofs.hss.verify_down.Given as goal

abbrev pub invariant-levels : goal.invariant-levels
invariant-levels l = record {
  far : IsAsFar l.message l.signed_keys l.fn.top l.fn.rest (l.signed_keys - l._n) l.signer l.rest l.steps;
  taken : HasTaken l.message l.signed_keys l.fn.top l.fn.rest (l.signed_keys - l._n) l.signer l.rest l.steps;
  most : l.steps ≤ 8698 * l._n;
}
