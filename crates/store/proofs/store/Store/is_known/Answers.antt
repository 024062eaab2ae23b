use Rattle.std.proofs.Common.{subst}
use Rattle.delegations.specs.Verdicts.{Table}
use Rattle.machine.specs.Knowing.{IsKnown}
use Rattle.store.proofs.store.Store.is_known.Goals as goal

pub returns : goal.returns
returns g c = subst (λ s. (known : Table) × IsKnown s.kept.trusted known) c.self.view_is (_, c.is_known.ensures)
