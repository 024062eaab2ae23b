use Rattle.served_files.proofs.InOrder.{roles_none, rows_next}
use Rattle.served_files.proofs.Telling.{became_both, became_none}
use Rattle.served_files.proofs.visiting.visit_roles.Goals as goal

pub loop-row-init : goal.loop-row-init
loop-row-init g c = became_none _ _ _ (λ files. roles_none files)

pub loop-row-preserved : goal.loop-row-preserved
loop-row-preserved g c = became_both _ _ _ _ _ _ _ c.loop-row.invariant c.in_ok-visit_role.ensures
    (λ files xs ys just of_role. rows_next files c.args.rows.now c.loop-row.row-index c.row-item.result xs ys c.loop-row-test.true c.row-item.is just of_role)
