use Rattle.std.proofs.Common.{◌≡◌, ℕ, List, ◌++◌, length}
use Rattle.std.specs.Prelude.{bytes_eq}
use Rattle.trusted_state.proofs.names.after.Given as goal

abbrev pub invariant-bytes : goal.invariant-bytes
invariant-bytes l = (more : List ℕ) → bytes_eq (l.front ++ more) l.name ≡ bytes_eq (l.left ++ more) l.rest

abbrev pub decreases-bytes : goal.decreases-bytes
decreases-bytes l = length l.left
