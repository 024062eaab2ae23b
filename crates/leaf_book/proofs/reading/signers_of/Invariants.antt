use Rattle.std.proofs.Common.{map, take}
use Rattle.leaf_book.specs.Rows.{AreRowsOf, IsSignerFrom}
use Rattle.leaf_plans.specs.Views.{signer_view}
use Rattle.leaf_book.specs.steps.Loading.{AreSigners}
use Rattle.leaf_book.proofs.reading.signers_of.Given as goal

abbrev pub invariant-rows : goal.invariant-rows
invariant-rows l = AreRowsOf (IsSignerFrom 0) (take l.row-index l.rows) (map signer_view l.signers.items) × AreSigners (map signer_view l.signers.items)
