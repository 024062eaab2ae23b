use Rattle.std.proofs.Common.{◌≡◌, ◌+◌, ◌≤◌, length}
use Rattle.canonical_json.specs.steps.Skipping.{behind_value, EndsWith}
use Rattle.canonical_json.specs.declared.members.Place.TheVariants.{Outside}
use Rattle.canonical_json.proofs.members.skip.Given as goal

abbrev pub invariant-bytes : goal.invariant-bytes
invariant-bytes l = record {
  value : behind_value 0 Outside l.fn.bytes ≡ behind_value l.inside l.place l.rest;
  back : EndsWith l.fn.bytes l.rest;
  room : l.inside + length l.rest ≤ length l.fn.bytes;
}

abbrev pub decreases-bytes : goal.decreases-bytes
decreases-bytes l = length l.rest
