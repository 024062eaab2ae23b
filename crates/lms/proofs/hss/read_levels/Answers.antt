use Rattle.std.proofs.Common.{ℕ, length, ap, arith}
use Rattle.lms.proofs.hss.read_levels.Goals as goal

pub returns-then-signature-lt4 : goal.returns-then-signature-lt4
returns-then-signature-lt4 c n top rest is = absurd (omega (arith, ap (length {A = ℕ}) is.spelled))
