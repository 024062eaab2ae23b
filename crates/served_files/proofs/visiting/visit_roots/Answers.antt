use Rattle.std.proofs.Common.{◌+◌, ◌-◌, ◌<◌, arith}
use Rattle.served_files.proofs.InOrder.{roots_ended, roots_told, roots_told_none}
use Rattle.served_files.proofs.Roots.{root_at, roots_all}
use Rattle.served_files.proofs.Telling.{became_as, became_both, became_none}
use Rattle.served_files.proofs.visiting.visit_roots.Goals as goal

pub loop-before-init : goal.loop-before-init
loop-before-init g c = record { told = became_none _ _ _ (λ files. roots_told_none files c.args.last); low = omega arith }

pub loop-before-preserved : goal.loop-before-preserved
loop-before-preserved g c =
    let below : c.args.after < c.loop-before.before = c.loop-before-test.true in
    record {
      told = became_both _ _ _ _ _ _ _ c.loop-before.invariant.told c.in_ok-visit_root.ensures
          (λ files xs ys told one. roots_told files (c.loop-before.before - 1) c.loop-before.before c.args.last xs ys (omega arith) (omega arith) (omega arith) told
          (root_at files ((c.loop-before.before - 1) + 1) c.loop-before.before _ _ ys (omega arith) c.if-not-branch.false one));
      low = omega arith;
    }

pub returns-then-not-branch : goal.returns-then-not-branch
returns-then-not-branch g c =
    let below : c.args.after < c.loop-before.before = c.loop-before-test.true in
    became_both _ _ _ _ _ _ _ c.loop-before.invariant.told c.in_ok-visit_root.ensures
    (λ files xs ys told one. roots_ended files c.args.after c.loop-before.before c.args.last xs ys below (omega arith) told
    (root_at files ((c.loop-before.before - 1) + 1) c.loop-before.before _ _ ys (omega arith) c.if-not-branch.true one))

pub returns : goal.returns
returns g c = became_as _ _ _ _ _ c.loop-before.invariant.told (λ files xs told.
    (roots_all files c.args.after c.loop-before.before c.args.last xs c.loop-before-test.false c.loop-before.invariant.low told, told.stand_after))
