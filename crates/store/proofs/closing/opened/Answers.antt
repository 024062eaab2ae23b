use Rattle.std.proofs.Common.{subst}
use Rattle.sqlite.specs.Held.{state}
use Rattle.sqlite.specs.State.{HasCleanDisk}
use Rattle.store.proofs.closing.opened.Goals as goal

pub returns-in-Ok : goal.returns-in-Ok
returns-in-Ok g c quiet clean found may =
    (c.in-Ok.ensures.crash quiet).crash (subst (λ k. HasCleanDisk (state g.S.Store k)) c.into_connection.ensures clean) found
    (subst (λ k. (state g.S.Store k).may_leave found) c.into_connection.ensures may)
