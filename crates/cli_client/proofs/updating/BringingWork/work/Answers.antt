use Rattle.client.proofs.Composing.{becomes}
use Rattle.cli_client.proofs.updating.BringingWork.work.Goals as goal

pub returns-after-lacks_timestamp : goal.returns-after-lacks_timestamp
returns-after-lacks_timestamp g c = becomes _ _ c.update_by_each-done.ensures.brings (λ C D p. p.2)

pub returns-in-Err : goal.returns-in-Err
returns-in-Err g c = becomes _ _ c.update_by_each-done.ensures.brings (λ C D p. p.2)
