use Rattle.std.proofs.Common.{map, length}
use Rattle.sqlite_rules.specs.Lists.{Has}
use Rattle.leaf_book.specs.declared.reading.Place.TheVariants.{New}
use Rattle.leaf_plans.specs.Book.{LeafRow}
use Rattle.leaf_plans.specs.Views.{kept_view}
use Rattle.leaf_book.specs.steps.Loading.{IsPlace}
use Rattle.leaf_book.proofs.reading.place_of.Given as goal

-- what is left are leaves, and it is new among the others
abbrev pub invariant-leaves : goal.invariant-leaves
invariant-leaves l =
    ((e : LeafRow) → Has (map kept_view l.rest) e → Has (map kept_view l.fn.leaves) e)
    × (IsPlace (map kept_view l.rest) (kept_view l.kept) New → IsPlace (map kept_view l.fn.leaves) (kept_view l.kept) New)

abbrev pub decreases-leaves : goal.decreases-leaves
decreases-leaves l = length l.rest
