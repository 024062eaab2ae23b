use Rattle.std.proofs.Common.{rules}
use Rattle.artifact_rules.proofs.taking.lists.Goals as goal

pub returns-in-Some : goal.returns-in-Some
returns-in-Some c = (c.in-Some.field-0.now.0, search rules)
