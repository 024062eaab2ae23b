use Rattle.std.proofs.Common.{rules}
use Rattle.served_files.proofs.InOrder.{lists_nothing}
use Rattle.served_files.proofs.Telling.{became_none}
use Rattle.served_files.proofs.visiting.visit_listings_of.Goals as goal

pub returns-in-Targets : goal.returns-in-Targets
returns-in-Targets g c = rw (c.in-Targets.is, ← c.deref.ensures.value) c.visit_listings.ensures

pub returns-in_default : goal.returns-in_default
returns-in_default g c = became_none _ _ _ (λ files. lists_nothing files c.args.body.now (λ x e. search (rules, c.in_default.not-Targets)))
