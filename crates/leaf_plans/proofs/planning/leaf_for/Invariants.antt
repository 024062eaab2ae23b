use Rattle.std.proofs.Common.{ℕ, map, length}
use Rattle.sqlite_rules.specs.Lists.{Has}
use Rattle.keys_roles.specs.Views.{id_text}
use Rattle.leaf_plans.specs.Book.{LeafRow}
use Rattle.leaf_plans.specs.Views.{kept_view}
use Rattle.leaf_plans.proofs.planning.leaf_for.Given as goal

-- what is left are leaves, and those of the key for the message are among them
abbrev pub invariant-leaves : goal.invariant-leaves
invariant-leaves l =
    ((e : LeafRow) → Has (map kept_view l.rest) e → Has (map kept_view l.fn.leaves) e)
    × ((leaf : ℕ) → Has (map kept_view l.fn.leaves) (record { key = id_text l.key; leaf = leaf; message = l.message }) → Has (map kept_view l.rest) (record { key = id_text l.key; leaf = leaf; message = l.message }))

abbrev pub decreases-leaves : goal.decreases-leaves
decreases-leaves l = length l.rest
