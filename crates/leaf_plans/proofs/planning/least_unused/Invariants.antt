use Rattle.std.proofs.Common.{ℕ, ◌<◌, List, map}
use Rattle.sqlite_rules.specs.Lists.{Has}
use Rattle.keys_roles.specs.Views.{id_text}
use Rattle.leaf_plans.specs.Views.{kept_view}
use Rattle.leaf_plans.proofs.planning.least_unused.Given as goal

-- each leaf so far is used
abbrev pub invariant-numbers : goal.invariant-numbers
invariant-numbers l =
    (n : ℕ) → n < l.leaf → (message : List ℕ) × Has (map kept_view l.leaves) (record { key = id_text l.key; leaf = n; message = message })
