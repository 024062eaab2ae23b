use Rattle.std.proofs.Common.{rules}
use Rattle.served_files.proofs.InOrder.{has_no_roles}
use Rattle.served_files.proofs.Telling.{became_none}
use Rattle.served_files.proofs.visiting.visit_roles_of.Goals as goal

pub returns-in-Snapshot : goal.returns-in-Snapshot
returns-in-Snapshot g c = rw (c.in-Snapshot.is, ← c.deref.ensures.value) c.visit_roles.ensures

pub returns-in_default : goal.returns-in_default
returns-in_default g c = became_none _ _ _ (λ files. has_no_roles files c.args.body.now (λ x e. search (rules, c.in_default.not-Snapshot)))
