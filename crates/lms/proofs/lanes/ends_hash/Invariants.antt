use Rattle.std.proofs.Common.{◌≡◌, ◌+◌, ◌++◌, ℕ, List, drop}
use Rattle.lms.specs.Text.{u16, u32}
use Rattle.lms.specs.steps.Lanes.{all_ends, all_left}
use Rattle.sha2.specs.Hashers.{Holds256}
use Rattle.lms.proofs.lanes.ends_hash.Given as goal

abbrev pub invariant-ends : goal.invariant-ends
invariant-ends l = record {
  held : (m : List ℕ) × Holds256 l.hash m × (m ++ all_ends l.identifier l.q (drop l.c-index l.chains) ≡ l.identifier ++ u32 l.q ++ u16 0x8080 ++ all_ends l.identifier l.q l.chains);
  count : l.steps + all_left (drop l.c-index l.chains) ≡ l.initial.steps + all_left l.chains;
}
