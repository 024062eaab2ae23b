use Rattle.std.proofs.Common.{◌⊎◌, IsSomeAnd, subst}
use Rattle.std.proofs.Math.Logic.{∥∥₁_map}
use Rattle.sqlite.specs.Files.{file_state}
use Rattle.sqlite.specs.State.{HasCleanDisk}
use Rattle.sqlite_trees.specs.Tree.{Trees}
use Rattle.leaf_book.specs.Rows.{Begins, TreesStand}
use Rattle.leaf_book.proofs.Reopening.{opened_same}
use Rattle.leaf_book.proofs.closing.open_and_close.Goals as goal

pub returns-in-Some : goal.returns-in-Some
returns-in-Some g c = record {
  crash = λ quiet honest left out found finds.
      let leaves = subst (λ o. IsSomeAnd o (λ k. HasCleanDisk (file_state k) → (found : Trees) → (file_state k).may_leave found → (file_state c.args.conn).may_leave found ⊎ Begins (file_state c.args.conn) found)) c.in-Some.is (c.opened-result.ensures.crash quiet) in
      ∥∥₁_map (c.close.ensures.left honest left out found finds) (leaves (c.close.ensures.clean honest) found);
  reopened = λ quiet is_open b right stands honest left out found finds answer opens.
      let stays = subst (λ o. IsSomeAnd o (λ k. HasCleanDisk (file_state k) → (trees : Trees) → (file_state k).may_leave trees → TreesStand trees b)) c.in-Some.is (c.opened-result.ensures.stays quiet is_open b stands) in
      ∥∥₁_map (c.close.ensures.left honest left out found finds) (λ may. opened_same found b answer right (stays (c.close.ensures.clean honest) found may) opens);
}
