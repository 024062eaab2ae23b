use Rattle.std.proofs.Common.{◌++◌, take}
use Rattle.std.proofs.KnownBytes.{Appends-trans}
use Rattle.http_messages.proofs.TakenLemmas.{moves_front}
use Rattle.http_messages.proofs.line.send_all.Goals as goal

pub loop-rest-preserved : goal.loop-rest-preserved
loop-rest-preserved g c =
    let (taken, stays) = c.loop-rest.invariant in
    let (done, split, appended) = taken in
    let rest = c.loop-rest.rest.now in
    let n = c.in-Ok.n in
    ((done ++ take n rest, moves_front _ done rest n split, Appends-trans _ _ _ _ _ appended c.in-Ok.ensures.bytes), λ h. (c.in-Ok.ensures.sound (stays h)).0)
