use Rattle.std.proofs.Common.{subst, ap}
use Rattle.trust_rules.specs.State.{IsSnapshotDue}
use Rattle.client.specs.Session.{held, due, fails, unasked}
use Rattle.client.specs.Views.{ended}
use Rattle.client.proofs.Composing.{becomes_at, rests}
use Rattle.client.proofs.OneFile.{as_wanted}
use Rattle.client.proofs.updating.take_snapshot.Goals as goal

pub returns-in-None : goal.returns-in-None
returns-in-None g c = rests _ _ (λ S at. held (subst (IsSnapshotDue S.trusted) c.in-None.is (c.snapshot_due.ensures S at.state)))

pub returns-in-Err : goal.returns-in-Err
returns-in-Err g c = rests _ _ (λ S at. fails c.in-Some.version (subst (IsSnapshotDue S.trusted) c.in-Some.is (c.snapshot_due.ensures S at.state)) unasked)

pub returns-in-Ok-take : goal.returns-in-Ok-take
returns-in-Ok-take g c =
    becomes_at _ _ c.take.ensures
    (λ C D at took. due c.in-Some.version (subst (IsSnapshotDue C.trusted) c.in-Some.is (c.snapshot_due.ensures C at.state))
    (as_wanted g.F.Source.gives _ _ _ _ _ _ _ _ _ c.in-Ok.ensures (ap (ended (λ b. b)) c.in-Ok-take.is) took))

pub returns : goal.returns
returns g c =
    becomes_at _ _ c.take.ensures
    (λ C D at took. fails c.in-Some.version (subst (IsSnapshotDue C.trusted) c.in-Some.is (c.snapshot_due.ensures C at.state))
    (as_wanted g.F.Source.gives _ _ _ _ _ _ _ _ _ c.in-Ok.ensures (ap (ended (λ b. b)) c.in-Err-take.is) took))
