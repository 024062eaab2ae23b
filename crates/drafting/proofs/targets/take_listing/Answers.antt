use Rattle.drafting.proofs.Rows.{none_in}
use Rattle.drafting.proofs.targets.take_listing.Goals as goal

pub returns-clause-none : goal.returns-clause-none
returns-clause-none c =
    λ is. none_in c.args.targets.now.items c.deref.result.now c.args.path.now c.deref.ensures.value (c.is_there-there.ensures.none is)
