use Rattle.std.proofs.Common.{map, length}
use Rattle.sqlite_rules.specs.Lists.{Has}
use Rattle.lms.specs.declared.Params.{Params}
use Rattle.keys_roles.specs.Views.{id_text}
use Rattle.leaf_plans.specs.Book.{Signer}
use Rattle.leaf_plans.specs.Views.{signer_view}
use Rattle.leaf_plans.proofs.planning.params_of.Given as goal

-- what is left are signers, and those of the key are among them
abbrev pub invariant-signers : goal.invariant-signers
invariant-signers l =
    ((s : Signer) → Has (map signer_view l.rest) s → Has (map signer_view l.fn.signers) s)
    × ((params : Params) → Has (map signer_view l.fn.signers) (record { key = id_text l.key; params = params }) → Has (map signer_view l.rest) (record { key = id_text l.key; params = params }))

abbrev pub decreases-signers : goal.decreases-signers
decreases-signers l = length l.rest
