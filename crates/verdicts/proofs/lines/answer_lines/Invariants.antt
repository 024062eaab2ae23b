use Rattle.std.proofs.Common.{IfSome}
use Rattle.std.specs.Io.KnownBytes.{Appends}
use Rattle.verdicts.proofs.SoFar.{IsSoFar}
use Rattle.verdicts.proofs.lines.answer_lines.Given as goal

abbrev pub invariant-loop-number : goal.invariant-loop-number
invariant-loop-number g l =
    IfSome (g.R.Read.remaining l.initial.input) (λ text.
    IsSoFar text (g.R.Read.remaining l.input) l.number (Appends (g.W.Write.contents l.initial.output) (g.W.Write.contents l.output)))
