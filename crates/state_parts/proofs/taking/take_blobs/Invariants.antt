use Rattle.std.proofs.Common.{◌≡◌, ◌≤◌, ◌-◌, ◌+◌, length, vec_len, vec_capacity}
use Rattle.trust_rules.specs.Effects.{with_blobs}
use Rattle.state_parts.specs.Views.{blob_views}
use Rattle.state_parts.proofs.taking.take_blobs.Given as goal

abbrev pub invariant-loop-blob : goal.invariant-loop-blob
invariant-loop-blob l = record {
  rows : blob_views l.blobs.items ≡ with_blobs (blob_views l.initial.blobs.items) (blob_views l.yielded);
  room : length l.fn.more.items ≤ (vec_capacity l.blobs - vec_len l.blobs) + length l.yielded;
}
