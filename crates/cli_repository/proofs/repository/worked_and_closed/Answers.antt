use Rattle.cli_repository.specs.Works.{over}
use Rattle.cli_repository.proofs.repository.worked_and_closed.Goals as goal

pub returns-then-is_err : goal.returns-then-is_err
returns-then-is_err g c = let (S, at) = c.stands.ensures.somewhere in over S _ _ at c.work-done.ensures

pub returns-else-is_err : goal.returns-else-is_err
returns-else-is_err g c = let (S, at) = c.stands.ensures.somewhere in over S _ _ at c.work-done.ensures
