use Rattle.trust_rules.proofs.RowsOfOneState.{with_blobs_stored, without_blobs_stored}
use Rattle.trusted_state.proofs.stored.read_files.Goals as goal

pub returns-in_default-clause-none : goal.returns-in_default-clause-none
returns-in_default-clause-none c E h = (rw (c.in_default.is) at c.in_ok-changes.ensures.none) _ (without_blobs_stored h)

pub returns-clause-some : goal.returns-clause-some
returns-clause-some c = with_blobs_stored (rw (c.in-Some.is) at c.in_ok-changes.ensures.some) c.in_ok-blobs.ensures
