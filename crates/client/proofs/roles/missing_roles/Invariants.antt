use Rattle.std.proofs.Common.{length}
use Rattle.client.proofs.roles.missing_roles.Given as goal

abbrev pub decreases-roles : goal.decreases-roles
decreases-roles g l = length l.rest
