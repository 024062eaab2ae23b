use Rattle.std.proofs.Common.{ℕ, List, map, length}
use Rattle.sqlite_rules.specs.Lists.{Has}
use Rattle.keys_roles.specs.Views.{id_text}
use Rattle.leaf_plans.specs.Book.{LeafRow}
use Rattle.leaf_plans.specs.Views.{kept_view}
use Rattle.signer.proofs.trees.message_of.Given as goal

-- what is left are leaves, and those of this number of the key are among them
abbrev pub invariant-leaves : goal.invariant-leaves
invariant-leaves l =
    ((e : LeafRow) → Has (map kept_view l.rest) e → Has (map kept_view l.fn.leaves) e)
    × ((message : List ℕ) → Has (map kept_view l.fn.leaves) (record { key = id_text l.key; leaf = l.leaf; message = message }) → Has (map kept_view l.rest) (record { key = id_text l.key; leaf = l.leaf; message = message }))

abbrev pub decreases-leaves : goal.decreases-leaves
decreases-leaves l = length l.rest
