use Rattle.cli_repository.specs.Works.{unopened}
use Rattle.cli_repository.proofs.repository.worked_in.Goals as goal

pub returns-after-conn : goal.returns-after-conn
returns-after-conn g c = unopened (rw c.in-Err.fault-is c.in-Err.ensures)
