use Rattle.cli_repository.proofs.Doing.{store_other}
use Rattle.cli_repository.proofs.repository.opened.Goals as goal

pub returns-after-has_others : goal.returns-after-has_others
returns-after-has_others g c = rw c.fault_of_store.ensures (store_other _)
