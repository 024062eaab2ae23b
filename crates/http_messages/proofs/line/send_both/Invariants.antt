use Rattle.std.proofs.Common.{◌≡◌, ℕ, List, ◌++◌, length, true}
use Rattle.std.specs.Io.KnownBytes.{Appends}
use Rattle.http_messages.proofs.line.send_both.Given as goal

abbrev pub invariant-loop-first : goal.invariant-loop-first
invariant-loop-first g l =
    ((done : List ℕ) × (l.fn.front ++ l.fn.back ≡ done ++ (l.first ++ l.second)) × Appends (g.W.Write.contents l.initial.writer) (g.W.Write.contents l.writer) done)
    × (g.W.Transmit.sound l.initial.writer ≡ true → g.W.Transmit.sound l.writer ≡ true)

abbrev pub decreases-loop-first : goal.decreases-loop-first
decreases-loop-first g l = length (l.first ++ l.second)
