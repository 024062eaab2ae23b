use Rattle.std.proofs.Common.{sym, subst}
use Rattle.std.proofs.Math.Logic.{∥∥₁_map}
use Rattle.sqlite_trees.specs.Tree.{Trees}
use Rattle.store.specs.StateRows.{Recovers}
use Rattle.store.proofs.closing.close_into_file.Goals as goal

pub returns-in-Ok-clause-both : goal.returns-in-Ok-clause-both
returns-in-Ok-clause-both g c honest U at left out found finds =
    let copied = c.in-Ok.ensures.copied honest in
    let holds = c.at_rest-conn.ensures copied.was_clean copied.was_open U at in
    ∥∥₁_map (copied.left left out).both (λ it. subst (λ (d : Trees). Recovers d U) (sym (finds _ it)) holds)

pub returns-in-Ok-clause-alone : goal.returns-in-Ok-clause-alone
returns-in-Ok-clause-alone g c honest U at left out found finds =
    let copied = c.in-Ok.ensures.copied honest in
    let holds = c.at_rest-conn.ensures copied.was_clean copied.was_open U at in
    ∥∥₁_map (copied.left left out).alone (λ it. subst (λ (d : Trees). Recovers d U) (sym (finds _ it)) holds)
