use Rattle.std.proofs.Common.{◌∙◌, subst, sym}
use Rattle.trust_rules.specs.Held.{Held}
use Rattle.trust_rules.specs.State.{IsSnapshotDue}
use Rattle.store.proofs.store.Store.snapshot_due.Goals as goal

pub returns : goal.returns
returns g c U is = subst (λ (H : Held). IsSnapshotDue H.trusted c.snapshot_due.result) (c.held.ensures ∙ sym is.held) c.snapshot_due.ensures
