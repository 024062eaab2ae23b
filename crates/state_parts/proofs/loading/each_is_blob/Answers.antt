use Rattle.std.proofs.Common.{ap, sym}
use Rattle.std.proofs.lemmas.List.{length-map}
use Rattle.std.proofs.lemmas.Bool.{true≢false}
use Rattle.trust_rules.specs.State.{IsBlob}
use Rattle.state_parts.specs.Views.{blob_views}
use Rattle.trust_rules.proofs.RisingRows.{all_fails, all_goes, all_ends}
use Rattle.state_parts.proofs.loading.each_is_blob.Goals as goal

pub returns-then-not-is_blob : goal.returns-then-not-is_blob
returns-then-not-is_blob c =
    all_fails IsBlob (c.in-Some.blob.now.digest.0, c.in-Some.blob.now.bytes.items) (blob_views c.in-Some.later.now) (blob_views c.blobs.rest.now)
    (blob_views c.args.blobs.now) (ap blob_views c.in-Some.ensures.cases.0) (λ b. true≢false (sym (c.if-not-is_blob.ensures.1 b))) c.blobs.invariant

pub blobs-preserved : goal.blobs-preserved
blobs-preserved c =
    all_goes IsBlob (c.in-Some.blob.now.digest.0, c.in-Some.blob.now.bytes.items) (blob_views c.in-Some.later.now) (blob_views c.blobs.rest.now)
    (blob_views c.args.blobs.now) (ap blob_views c.in-Some.ensures.cases.0) (c.is_blob.ensures.0 c.if-not-is_blob.false) c.blobs.invariant

pub returns : goal.returns
returns c =
    all_ends IsBlob (blob_views c.blobs.rest.now) (blob_views c.args.blobs.now)
    (simp length-map c.in_default.ensures.cases) c.blobs.invariant
