use Rattle.std.proofs.Common.{◌≡◌, ◌++◌, length}
use Rattle.repository_rows.specs.Contents.{lengths_of}
use Rattle.state_parts.specs.Views.{blob_views, length_views}
use Rattle.state_parts.proofs.taking.blob_lengths.Given as goal

abbrev pub invariant-blobs : goal.invariant-blobs
invariant-blobs l = length_views l.lengths.items ++ lengths_of (blob_views l.rest) ≡ lengths_of (blob_views l.blobs)

abbrev pub decreases-blobs : goal.decreases-blobs
decreases-blobs l = length l.rest
