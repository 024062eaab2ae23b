use Rattle.store.specs.steps.Replies.{copied, wanting}
use Rattle.store.proofs.store.copied.Goals as goal

pub returns-in-Ok : goal.returns-in-Ok
returns-in-Ok c = copied c.in-Ok.ensures.items

pub returns-in-Err : goal.returns-in-Err
returns-in-Err c = wanting
