use Rattle.std.proofs.Common.{rules}
use Rattle.served_files.proofs.InOrder.{names_nothing}
use Rattle.served_files.proofs.Telling.{became_none}
use Rattle.served_files.proofs.visiting.visit_named.Goals as goal

pub returns-in-Timestamp : goal.returns-in-Timestamp
returns-in-Timestamp g c = rw c.in-Timestamp.is c.visit_version.ensures

pub returns-in_default : goal.returns-in_default
returns-in_default g c = became_none _ _ _ (λ files. names_nothing files c.args.body.now (λ x e. search (rules, c.in_default.not-Timestamp)))
