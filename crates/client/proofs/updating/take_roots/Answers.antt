use Rattle.client.proofs.Roots.{round_ends, round_goes, rounds_done}
use Rattle.client.proofs.updating.take_roots.Goals as goal

pub returns-in-Ok-false : goal.returns-in-Ok-false
returns-in-Ok-false g c =
    let last = rw c.in-Ok-false.field-0-test at c.in-Ok-false.ensures in
    c.loop-round.invariant _ _ _ (round_ends g.F.Source.gives c.args.now _ _ _ _ _ c.loop-round._round c.loop-round-test.true last)

pub returns-in-Err : goal.returns-in-Err
returns-in-Err g c = c.loop-round.invariant _ _ _ (round_ends g.F.Source.gives c.args.now _ _ _ _ _ c.loop-round._round c.loop-round-test.true c.in-Err.ensures)

pub loop-round-preserved : goal.loop-round-preserved
loop-round-preserved g c = λ B u r rest.
    let one = rw c.in-Ok-true.field-0-test at c.in-Ok-true.ensures in
    c.loop-round.invariant B u r (round_goes g.F.Source.gives c.args.now _ _ B _ _ u r c.loop-round._round c.loop-round-test.true one rest)

pub returns : goal.returns
returns g c = c.loop-round.invariant _ _ _ (rounds_done g.F.Source.gives c.args.now _ _ c.loop-round._round c.loop-round-test.false)
