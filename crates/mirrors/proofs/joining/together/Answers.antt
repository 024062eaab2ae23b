use Rattle.std.proofs.Common.{◌≡◌, Err, refl, rules}
use Rattle.fetch.specs.Source.{answered}
use Rattle.fetch.specs.declared.FetchFault.TheVariants.{TooLong, Broken, OutOfMemory}
use Rattle.mirrors.proofs.OneMore.{joins_settled, joins_none, when_long, when_broken, when_wanting}
use Rattle.mirrors.proofs.joining.together.Goals as goal

pub returns-in-Ok-Some : goal.returns-in-Ok-Some
returns-in-Ok-Some c answers t still = rw (c.in-Ok-Some.is, c.in-Ok-Some.field-0-is) (joins_settled answers _ _ t still refl)

pub returns-in-Ok-None : goal.returns-in-Ok-None
returns-in-Ok-None c answers t still = rw (c.in-Ok-None.is, c.in-Ok-None.field-0-is, c.with_none.ensures) (joins_none answers _ t still)

pub returns-in-Err-Broken : goal.returns-in-Err-Broken
returns-in-Err-Broken c answers t still =
    let e : answered c.args.next ≡ Err Broken = search rules in
    when_broken answers _ (answered c.args.next) e t still

pub returns-in-Err-TooLong : goal.returns-in-Err-TooLong
returns-in-Err-TooLong c answers t still =
    let e : answered c.args.next ≡ Err TooLong = search rules in
    when_long answers _ (answered c.args.next) e t still

pub returns-in-Err-OutOfMemory : goal.returns-in-Err-OutOfMemory
returns-in-Err-OutOfMemory c answers t still =
    let e : answered c.args.next ≡ Err OutOfMemory = search rules in
    when_wanting answers _ (answered c.args.next) e t still
