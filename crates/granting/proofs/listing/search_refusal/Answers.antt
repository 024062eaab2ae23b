use Rattle.denials.specs.Orders.{stopped}
use Rattle.trusted_state.specs.Answers.{denies}
use Rattle.granting.proofs.listing.search_refusal.Goals as goal

pub returns-in-RoleUnlisted : goal.returns-in-RoleUnlisted
returns-in-RoleUnlisted c = rw (c.in-RoleUnlisted.is) (denies stopped)

pub returns-in-RoleLength : goal.returns-in-RoleLength
returns-in-RoleLength c = rw (c.in-RoleLength.is) (denies stopped)

pub returns-in-RoleHash : goal.returns-in-RoleHash
returns-in-RoleHash c = rw (c.in-RoleHash.is) (denies stopped)

pub returns-in-RoleThreshold : goal.returns-in-RoleThreshold
returns-in-RoleThreshold c = rw (c.in-RoleThreshold.is) (denies stopped)

pub returns-in-RoleExpired : goal.returns-in-RoleExpired
returns-in-RoleExpired c = rw (c.in-RoleExpired.is) (denies stopped)

pub returns-in-TooManyRoles : goal.returns-in-TooManyRoles
returns-in-TooManyRoles c = rw (c.in-TooManyRoles.is) (denies stopped)

pub returns-in-NotFound : goal.returns-in-NotFound
returns-in-NotFound c = rw (c.in-NotFound.is) (denies stopped)
