use Rattle.std.proofs.Common.{sym, refl, arith}
use Rattle.sha2.proofs.Schedule256.{rounds_first}
use Rattle.sha256_lanes.specs.steps.Lanes.{lane, column}
use Rattle.sha256_lanes.proofs.LaneLemmas.{column_at}
use Rattle.sha256_lanes.proofs.rounds.first_step.Goals as goal

pub returns : goal.returns
returns c j below b h window held =
    rounds_first b h (column j c.args.w.now) (lane j c.args.v) c.args.t _ _ _ c.requires window held refl
    (sym (column_at c.args.w.now j c.args.t (omega arith))) (c.round.ensures j below)
