use Rattle.metadata.proofs.SnapshotNames.{snapshot_listed, snapshot_distinct}
use Rattle.metadata.proofs.laws.snapshot_names.Goals as goal

pub returns-clause-names : goal.returns-clause-names
returns-clause-names c = snapshot_listed

pub returns-clause-distinct : goal.returns-clause-distinct
returns-clause-distinct c = snapshot_distinct
