use Rattle.std.proofs.Common.{◌≡◌, ◌≤◌, ◌-◌, length, vec_len, vec_capacity}
use Rattle.trust_rules.specs.Held.{with_lengths}
use Rattle.state_parts.specs.Views.{blob_views, length_views}
use Rattle.state_parts.proofs.taking.take_lengths.Given as goal

abbrev pub invariant-blobs : goal.invariant-blobs
invariant-blobs l = record {
  rows : with_lengths (length_views l.lengths.items) (blob_views l.rest) ≡ with_lengths (length_views l.initial.lengths.items) (blob_views l.more);
  room : length l.rest ≤ vec_capacity l.lengths - vec_len l.lengths;
}

abbrev pub decreases-blobs : goal.decreases-blobs
decreases-blobs l = length l.rest
