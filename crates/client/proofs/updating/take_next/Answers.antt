use Rattle.std.proofs.Common.{Some, arith, refl}
use Rattle.client.proofs.Composing.{becomes}
use Rattle.client.proofs.OneFile.{as_wanted}
use Rattle.client.proofs.Roots.{at_the_highest, root_taken, root_unasked}
use Rattle.client.proofs.updating.take_next.Goals as goal

pub returns-then-version-eq4294967295 : goal.returns-then-version-eq4294967295
returns-then-version-eq4294967295 g c = at_the_highest g.F.Source.gives c.args.now _ (Some c.args.version) c.args.version c.args.source.now c.requires refl c.if-version-eq4294967295.true

pub returns-in-Ok : goal.returns-in-Ok
returns-in-Ok g c =
    root_taken g.F.Source.gives c.args.now _ _ (Some c.args.version) c.args.version _ _ c.take.result c.requires refl (omega (arith, c.if-version-eq4294967295.false, c.ranges.version.fits))
    (becomes _ _ c.take.ensures (λ C D took. as_wanted g.F.Source.gives _ _ _ _ _ _ _ _ _ c.in-Ok.ensures refl took))

pub returns-in-Err : goal.returns-in-Err
returns-in-Err g c =
    root_unasked g.F.Source.gives c.args.now _ (Some c.args.version) c.args.version c.args.source.now c.requires refl (omega (arith, c.if-version-eq4294967295.false, c.ranges.version.fits))
