use Rattle.std.proofs.Common.{◌≡◌, ℕ, List, map, length}
use Rattle.sqlite_rules.specs.Lists.{Has}
use Rattle.keys_roles.specs.Views.{id_text}
use Rattle.leaf_plans.specs.Book.{LeafRow}
use Rattle.leaf_plans.specs.Views.{kept_view}
use Rattle.signer.specs.Below.{lms_key_of}
use Rattle.signer.specs.Versions.{IsRivalLeaf}
use Rattle.signer.proofs.rivals_below.rival_under.Given as goal

-- what is left are leaves, and those kept for trees with rivals are among them
abbrev pub invariant-leaves : goal.invariant-leaves
invariant-leaves l =
    ((e : LeafRow) → Has (map kept_view l.rest) e → Has (map kept_view l.fn.leaves) e)
    × ((q : ℕ) (public : List ℕ) → Has (map kept_view l.fn.leaves) (record { key = id_text l.top; leaf = q; message = public }) → length public ≡ 56
    → (leaf : ℕ) → IsRivalLeaf (map kept_view l.fn.leaves) (lms_key_of public) l.message leaf
    → Has (map kept_view l.rest) (record { key = id_text l.top; leaf = q; message = public }))

abbrev pub decreases-leaves : goal.decreases-leaves
decreases-leaves l = length l.rest
