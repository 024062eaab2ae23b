use Rattle.delegations.specs.Delegation.{before}
use Rattle.trust_rules.proofs.PutInRoom.{put_in_order}
use Rattle.state_parts.proofs.taking.put_blob.Goals as goal

pub returns-clause-rows : goal.returns-clause-rows
returns-clause-rows c =
    rw (c.insert_within.ensures.items, c.blob_place-at.ensures.place, c.deref.ensures.value)
    (put_in_order before (λ b. (b.digest.0, b.bytes.items)) c.args.blobs.now.items c.args.blob)
