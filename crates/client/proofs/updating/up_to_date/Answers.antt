use Rattle.std.proofs.Common.{subst, ap}
use Rattle.client.specs.Session.{then, fails, TakesRoots}
use Rattle.client.specs.Views.{ended}
use Rattle.client.proofs.Composing.{becomes, follows}
use Rattle.client.proofs.updating.up_to_date.Goals as goal

pub returns-in-Ok : goal.returns-in-Ok
returns-in-Ok g c =
    follows _ _ _ c.take_roots.ensures c.take_timestamp.ensures
    (λ C D E roots more. then (subst (TakesRoots g.F.Source.gives _ _ _ _ _ _) (ap (ended (λ u. u)) c.in-Ok.is) roots) more)

pub returns-in-Err : goal.returns-in-Err
returns-in-Err g c = becomes _ _ c.take_roots.ensures (λ C D roots. fails (subst (TakesRoots g.F.Source.gives _ _ _ _ _ _) (ap (ended (λ u. u)) c.in-Err.is) roots))
