use Rattle.std.proofs.Common.{◌++◌, ◌∙◌, ap, arith, length, length-append, take}
use Rattle.std.proofs.lemmas.List.{length-take}
use Rattle.std.proofs.KnownBytes.{Consumes-trans}
use Rattle.http_fetch.proofs.body.read_rest.Goals as goal

pub returns-in-Err-extend_from_slice : goal.returns-in-Err-extend_from_slice
returns-in-Err-extend_from_slice g c =
    let given = c.loop-piece.invariant.given in
    let count = c.in-Ok.count in
    let part = take count c.read_some.new.piece in (
      given.0 ++ part,
      record {
        consumes = Consumes-trans _ _ _ _ _ given.1 c.in-Ok.ensures.ok;
        few =
            let held = ap length given.2 ∙ length-append c.args.front.now given.0 in
            omega (
              arith,
              held,
              length-append c.args.front.now (given.0 ++ part),
              length-append given.0 part,
              length-take count c.read_some.new.piece,
              c.in-Ok.ensures.fits.0,
              c.saturating_add-most.ensures,
              c.loop-piece-test.true,
              c.len.ensures,
              c.len-in-loop-piece.ensures,
            );
      },
    )
