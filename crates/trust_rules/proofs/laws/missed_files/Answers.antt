use Rattle.trust_rules.proofs.MissedFiles.{grants_alike, listed_proper, misses_blob, misses_role, supports_are_paths}
use Rattle.trust_rules.proofs.laws.missed_files.Goals as goal

pub returns-clause-same : goal.returns-clause-same
returns-clause-same c D S path asked now j part fine h = grants_alike c.search_grows.ensures D S part path asked now j fine h

pub returns-clause-roles : goal.returns-clause-roles
returns-clause-roles c D S path now role version part h = misses_role c.search_grows.ensures D S part path now role version h

pub returns-clause-blobs : goal.returns-clause-blobs
returns-clause-blobs c D S path at digest now len valid part h =
    misses_blob c.search_grows.ensures D S part path now (supports_are_paths c.search_is_sound.ensures S path now valid) at digest len h

pub returns-clause-proper : goal.returns-clause-proper
returns-clause-proper c = listed_proper c.search_is_sound.ensures
