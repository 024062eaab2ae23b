use Rattle.cli_repository.specs.Works.{unopened}
use Rattle.cli_repository.proofs.repository.worked.Goals as goal

pub returns-in-Err : goal.returns-in-Err
returns-in-Err g c = unopened c.in-Err.ensures
