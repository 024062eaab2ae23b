use Rattle.std.proofs.Common.{sym}
use Rattle.std.proofs.lemmas.List.{map-append}
use Rattle.state_parts.specs.Views.{blob_views}
use Rattle.trust_rules.proofs.PutInRoom.{room_left, blobs_more}
use Rattle.state_parts.proofs.taking.take_blobs.Goals as goal

pub loop-blob-preserved : goal.loop-blob-preserved
loop-blob-preserved c = record {
  rows = rw (c.put_blob.ensures.rows, c.loop-blob.invariant.rows, map-append) (sym (blobs_more (blob_views c.args.blobs.now.items) (blob_views c.loop-blob.yielded) (c.in-Some.blob.digest.0, c.in-Some.blob.bytes.items)));
  room = room_left _ _ _ c.loop-blob.yielded c.in-Some.blob c.loop-blob.invariant.room c.put_blob.ensures.room;
}
