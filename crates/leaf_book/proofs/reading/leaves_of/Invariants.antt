use Rattle.std.proofs.Common.{map, take}
use Rattle.leaf_book.specs.Rows.{AreRowsOf, IsLeafFrom}
use Rattle.leaf_plans.specs.Views.{kept_view, signer_view}
use Rattle.leaf_book.specs.steps.Loading.{AreLeaves}
use Rattle.leaf_book.proofs.reading.leaves_of.Given as goal

abbrev pub invariant-rows : goal.invariant-rows
invariant-rows l = AreRowsOf (IsLeafFrom 0) (take l.row-index l.rows) (map kept_view l.leaves.items) × AreLeaves (map signer_view l.signers) (map kept_view l.leaves.items)
