use Rattle.std.proofs.Common.{ℕ, List, map, length}
use Rattle.sqlite_rules.specs.Lists.{Has}
use Rattle.leaf_plans.specs.Book.{Signer}
use Rattle.leaf_plans.specs.Views.{signer_view}
use Rattle.leaf_plans.proofs.planning.has_params.Given as goal

-- what is left are signers, and those with these parameters are among them
abbrev pub invariant-signers : goal.invariant-signers
invariant-signers l =
    ((s : Signer) → Has (map signer_view l.rest) s → Has (map signer_view l.fn.signers) s)
    × ((key : List ℕ) → Has (map signer_view l.fn.signers) (record { key = key; params = l.params }) → Has (map signer_view l.rest) (record { key = key; params = l.params }))

abbrev pub decreases-signers : goal.decreases-signers
decreases-signers l = length l.rest
