use Rattle.std.proofs.Common.{ℕ, ◌<◌, List, map, length}
use Rattle.sqlite_rules.specs.Lists.{Has}
use Rattle.keys_roles.specs.Views.{id_text}
use Rattle.leaf_plans.specs.Book.{LeafRow}
use Rattle.leaf_plans.specs.Views.{kept_view}
use Rattle.leaf_plans.proofs.planning.used_in_order.Given as goal

-- what is left are leaves, and each leaf so far is used
abbrev pub invariant-leaves : goal.invariant-leaves
invariant-leaves l =
    ((e : LeafRow) → Has (map kept_view l.rest) e → Has (map kept_view l.fn.leaves) e)
    × ((n : ℕ) → n < l.next → (message : List ℕ) × Has (map kept_view l.fn.leaves) (record { key = id_text l.key; leaf = n; message = message }))

abbrev pub decreases-leaves : goal.decreases-leaves
decreases-leaves l = length l.rest
