use Rattle.release.proofs.Serving.{then_over}
use Rattle.release.proofs.serve.Server.serve_all.Goals as goal

pub returns-in-Ok-All : goal.returns-in-Ok-All
returns-in-Ok-All g c = then_over _ _ _ _ c.loop.invariant c.serve_next.ensures

pub returns-in-Ok-Shut : goal.returns-in-Ok-Shut
returns-in-Ok-Shut g c = then_over _ _ _ _ c.loop.invariant c.serve_next.ensures

pub returns-in-Err : goal.returns-in-Err
returns-in-Err g c = then_over _ _ _ _ c.loop.invariant c.serve_next.ensures

pub loop-preserved : goal.loop-preserved
loop-preserved g c = then_over _ _ _ _ c.loop.invariant c.serve_next.ensures
