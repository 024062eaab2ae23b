use Rattle.std.proofs.Common.{◌≡◌, ◌≤◌, ◌-◌, ◌++◌, ℕ, suc, List, length, true, vec_len}
use Rattle.std.specs.Prelude.{max}
use Rattle.std.specs.Io.KnownBytes.{Consumes}
use Rattle.http_fetch.proofs.body.read_rest.Given as goal

-- what was gathered is what came with the head and what the reader gave
abbrev pub invariant-loop-piece : goal.invariant-loop-piece
invariant-loop-piece g l = record {
  sound : g.R.Receive.sound l.fn.reader ≡ true → g.R.Receive.sound l.reader ≡ true;
  piece : length l.piece ≡ 8192;
  few : vec_len l.body ≤ max (length l.fn.front) (suc l.limit);
  given : (gave : List ℕ) × Consumes (g.R.Read.remaining l.fn.reader) (g.R.Read.remaining l.reader) gave × (l.body.items ≡ l.fn.front ++ gave);
}

abbrev pub decreases-loop-piece : goal.decreases-loop-piece
decreases-loop-piece g l = suc l.limit - vec_len l.body
