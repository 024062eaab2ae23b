use Rattle.metadata.specs.File.{snapshot_form}
use Rattle.trust_rules.specs.steps.Stored.{IsStored}
use Rattle.trust_rules.proofs.RowsOfOneState.{nothing_together}
use Rattle.trusted_state.proofs.stored.read_snapshot.Goals as goal

pub returns-in_default-2-clause-none : goal.returns-in_default-2-clause-none
returns-in_default-2-clause-none c o =
    rw (c.in-Some.is) (nothing_together (IsStored snapshot_form (λ b. b.version)) _ (rw (c.deref.ensures.value, c.in_default-2.is) at c.in_ok-file.ensures.none) o)
