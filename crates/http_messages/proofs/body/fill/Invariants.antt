use Rattle.std.proofs.Common.{◌≡◌, ◌≤◌, ◌+◌, ◌-◌, ◌++◌, ℕ, List, length, take, true}
use Rattle.std.specs.Io.KnownBytes.{Consumes}
use Rattle.http_messages.proofs.body.fill.Given as goal

abbrev pub invariant-loop-filled : goal.invariant-loop-filled
invariant-loop-filled g l =
    (g.R.Receive.sound l.fn.reader ≡ true → g.R.Receive.sound l.reader ≡ true) × (l.filled ≤ length l.buf) × (length l.buf ≡ length l.fn.buf)
    × ((gave : List ℕ) × Consumes (g.R.Read.remaining l.fn.reader) (g.R.Read.remaining l.reader) gave × (take l.filled l.buf ≡ take l.fn.start l.fn.buf ++ gave) × (l.filled ≡ l.fn.start + length gave))

abbrev pub decreases-loop-filled : goal.decreases-loop-filled
decreases-loop-filled g l = length l.initial.buf - l.filled
