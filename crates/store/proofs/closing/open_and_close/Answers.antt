use Rattle.std.proofs.Common.{◌⊎◌, IsSomeAnd, subst}
use Rattle.std.proofs.Math.Logic.{∥∥₁_map}
use Rattle.sqlite.specs.Files.{file_state}
use Rattle.sqlite.specs.State.{HasCleanDisk}
use Rattle.sqlite_trees.specs.Tree.{Trees}
use Rattle.store.specs.StateRows.{Begins}
use Rattle.store.proofs.Reopening.{reopens_same}
use Rattle.store.proofs.closing.open_and_close.Goals as goal

pub returns-in-Some : goal.returns-in-Some
returns-in-Some g c = record {
  crash = λ quiet honest left out found finds.
      let leaves = subst (λ o. IsSomeAnd o (λ k. HasCleanDisk (file_state k) → (found : Trees) → (file_state k).may_leave found → (file_state c.args.conn).may_leave found ⊎ Begins (file_state c.args.conn) found)) c.in-Some.is (c.opened-result.ensures quiet) in
      ∥∥₁_map (c.close.ensures.left honest left out found finds) (leaves (c.close.ensures.clean honest) found);
  reopened = λ quiet honest U rests left out found finds.
      let leaves = subst (λ o. IsSomeAnd o (λ k. HasCleanDisk (file_state k) → (found : Trees) → (file_state k).may_leave found → (file_state c.args.conn).may_leave found ⊎ Begins (file_state c.args.conn) found)) c.in-Some.is (c.opened-result.ensures quiet) in
      reopens_same c.trees_tell_state.ensures.once c.trees_tell_state.ensures.sound (file_state c.args.conn) U found
      c.leaves_committed.ensures.left (c.leaves_committed.ensures.settled quiet) c.leaves_committed.ensures.live rests
      (∥∥₁_map (c.close.ensures.left honest left out found finds) (leaves (c.close.ensures.clean honest) found));
}
