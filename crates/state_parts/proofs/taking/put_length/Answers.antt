use Rattle.delegations.specs.Delegation.{before}
use Rattle.trust_rules.proofs.PutInRoom.{put_in_order}
use Rattle.state_parts.proofs.taking.put_length.Goals as goal

pub returns-clause-rows : goal.returns-clause-rows
returns-clause-rows c =
    rw (c.insert_within.ensures.items, c.length_place-at.ensures.place, c.deref.ensures.value, ← c.length_of_blob.ensures.length, ← c.length_of_blob.ensures.digest)
    (put_in_order before (λ b. (b.digest.0, b.length)) c.args.lengths.now.items c.length_of_blob.result)
