use Rattle.std.proofs.Common.{length}
use Rattle.layouts.proofs.ruling.+check_rules.Given as goal

abbrev pub decreases-check_rules : goal.decreases-check_rules
decreases-check_rules c = length c.steps.now
