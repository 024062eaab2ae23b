use Rattle.trust_rules.proofs.FileNames.{dotted_once, role_found, root_found, snapshot_by_version, timestamp_found}
use Rattle.trust_rules.proofs.laws.names_find.Goals as goal

pub returns-clause-once : goal.returns-clause-once
returns-clause-once c = dotted_once

pub returns-clause-timestamps : goal.returns-clause-timestamps
returns-clause-timestamps c = timestamp_found

pub returns-clause-roots : goal.returns-clause-roots
returns-clause-roots c T n valid = root_found T valid n

pub returns-clause-snapshots : goal.returns-clause-snapshots
returns-clause-snapshots c T n valid = snapshot_by_version T valid n

pub returns-clause-roles : goal.returns-clause-roles
returns-clause-roles c T n role valid = role_found T valid n role
