use Rattle.drafting.proofs.Rows.{there_at}
use Rattle.drafting.proofs.members.is_there.Goals as goal

pub returns-in-Some-clause-there : goal.returns-in-Some-clause-there
returns-in-Some-clause-there c =
    λ is. there_at c.args.members.now c.in-Some.field-0 c.args.name.now c.in-Some.ensures.0 c.in-Some.ensures.1
