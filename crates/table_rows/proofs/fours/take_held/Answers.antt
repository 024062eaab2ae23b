use Rattle.table_rows.proofs.FourLemmas.{all_moved, held_by, none_moved, one_moved}
use Rattle.table_rows.proofs.fours.take_held.Goals as goal

pub held-init : goal.held-init
held-init c rows late are files = none_moved rows late _ _ _ are files

pub held-preserved : goal.held-preserved
held-preserved c rows late are files =
    one_moved rows late _ _ _ _ c.held.rest.now c.in-Some.later.now c.in-Some.first.now c.in-Some.ensures.cases.0
    (λ before r is had. c.in_ok-take_one.ensures before r (held_by r c.in-Some.first.now _ c.as_slice-bytes.ensures.value is) is.1 c.digest-own.ensures had)
    (c.held.invariant rows late are files)

pub returns : goal.returns
returns c rows late are files = all_moved rows late _ _ _ c.in_default.ensures.cases (c.held.invariant rows late are files)
