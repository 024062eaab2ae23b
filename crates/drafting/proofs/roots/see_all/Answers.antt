use Rattle.drafting.proofs.RootParts.{each_there}
use Rattle.drafting.proofs.Rows.{shown}
use Rattle.drafting.proofs.roots.see_all.Goals as goal

pub returns-clause-ok : goal.returns-clause-ok
returns-clause-ok c = each_there (shown c.args.roles.now) c.in_ok-see.ensures.ok c.in_ok-see-2.ensures.ok c.in_ok-see-3.ensures.ok c.in_ok-see-4.ensures.ok
