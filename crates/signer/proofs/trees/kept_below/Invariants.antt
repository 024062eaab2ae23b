use Rattle.std.proofs.Common.{ℕ, ◌<◌}
use Rattle.signer.specs.Below.{IsHeldBelow}
use Rattle.signer.proofs.trees.kept_below.Given as goal

-- no tree so far keeps it
abbrev pub invariant-trees : goal.invariant-trees
invariant-trees g l = (n : ℕ) → n < l.q → IsHeldBelow l.book.book l.pair l.message n → ⊥
