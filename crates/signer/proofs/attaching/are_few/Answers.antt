use Rattle.std.proofs.Common.{refl, arith}
use Rattle.signer.proofs.Attached.{levels_in}
use Rattle.signer.proofs.attaching.are_few.Goals as goal

pub returns : goal.returns
returns c = (
  λ t. levels_in c.args.public.now c.word-levels.result.1.now c.word-levels.result.0 c.word-levels.ensures.whole (omega (arith, c.if-levels-eq0.false))
      (omega (arith, c.if-levels-gt-MOST_LEVELS.false)),
  λ h. refl,
)
