use Rattle.std.proofs.Common.{ℕ, ◌<◌}
use Rattle.signer.specs.Below.{HasLeafBelow}
use Rattle.signer.proofs.trees.first_open.Given as goal

-- no tree so far has a leaf left
abbrev pub invariant-trees : goal.invariant-trees
invariant-trees g l = (n : ℕ) → n < l.q → HasLeafBelow l.book.book l.pair n → ⊥
