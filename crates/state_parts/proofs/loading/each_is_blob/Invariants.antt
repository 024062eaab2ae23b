use Rattle.std.proofs.Common.{length}
use Rattle.std.specs.Prelude.{◌↔◌, All}
use Rattle.trust_rules.specs.State.{IsBlob}
use Rattle.state_parts.specs.Views.{blob_views}
use Rattle.state_parts.proofs.loading.each_is_blob.Given as goal

abbrev pub invariant-blobs : goal.invariant-blobs
invariant-blobs l = (All IsBlob (blob_views l.rest)) ↔ (All IsBlob (blob_views l.blobs))

abbrev pub decreases-blobs : goal.decreases-blobs
decreases-blobs l = length l.rest
