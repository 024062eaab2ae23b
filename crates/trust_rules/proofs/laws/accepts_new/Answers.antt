use Rattle.trust_rules.proofs.NewFiles.{new_blob, new_snapshot, new_targets, new_timestamp}
use Rattle.trust_rules.proofs.laws.accepts_new.Goals as goal

pub returns-clause-timestamps : goal.returns-clause-timestamps
returns-clause-timestamps c = new_timestamp

pub returns-clause-snapshots : goal.returns-clause-snapshots
returns-clause-snapshots c = new_snapshot

pub returns-clause-targets : goal.returns-clause-targets
returns-clause-targets c = new_targets

pub returns-clause-blobs : goal.returns-clause-blobs
returns-clause-blobs c = new_blob
