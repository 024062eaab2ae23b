use Rattle.release.specs.Serving.{asked, none}
use Rattle.release.proofs.Serving.{then_over}
use Rattle.release.proofs.serve.Server.serve_next.Goals as goal

pub returns-in-Ok-None : goal.returns-in-Ok-None
returns-in-Ok-None g c = none

pub returns-in-Err : goal.returns-in-Err
returns-in-Err g c = none

pub returns-then-is_shut : goal.returns-then-is_shut
returns-then-is_shut g c = asked none c.is_open.ensures.keeps

pub returns : goal.returns
returns g c = then_over _ _ _ _ (asked none c.is_open.ensures.keeps) c.serve_one-available-2.ensures
