use Rattle.std.proofs.Common.{ℕ, map, length}
use Rattle.sqlite_rules.specs.Lists.{Has}
use Rattle.keys_roles.specs.Views.{id_text}
use Rattle.leaf_plans.specs.Book.{LeafRow}
use Rattle.leaf_plans.specs.Views.{kept_view}
use Rattle.signer.specs.Versions.{IsRivalLeaf}
use Rattle.signer.proofs.versions.rival_among.Given as goal

-- what is left are leaves, and those kept for rivals are among them
abbrev pub invariant-leaves : goal.invariant-leaves
invariant-leaves l =
    ((e : LeafRow) → Has (map kept_view l.rest) e → Has (map kept_view l.fn.leaves) e)
    × ((leaf : ℕ) → IsRivalLeaf (map kept_view l.fn.leaves) (id_text l.key) l.message leaf → IsRivalLeaf (map kept_view l.rest) (id_text l.key) l.message leaf)

abbrev pub decreases-leaves : goal.decreases-leaves
decreases-leaves l = length l.rest
