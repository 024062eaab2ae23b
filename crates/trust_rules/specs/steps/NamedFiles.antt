-- The metadata files under their names, table by table.
use Rattle.std.specs.Prelude.{ℕ, ◌-◌, List, [], ◌∷◌, map, length, Option, codes}
use Rattle.path_patterns.specs.Names.{dotted}
use Rattle.document_parts.specs.Documents.{Profile, Timestamp, Snapshot}
use Rattle.metadata.specs.File.{Bytes, File}
use Rattle.delegations.specs.Rows.{Rows}
use Rattle.trust_rules.specs.State.{one_file}

-- the files of the roots before the one with this version, of the shelf, of the timestamp, of the snapshot
abbrev pub earlier_files : ℕ → List (Profile × Bytes) → List (Bytes × Bytes)
earlier_files version [] = []
earlier_files version (b ∷ bs) = (dotted (version - length (b ∷ bs)) (codes "root"), b.1) ∷ earlier_files version bs

abbrev pub shelf_files : Rows → List (Bytes × Bytes)
shelf_files rows = map (λ row. (dotted row.0.1 row.0.0, row.1.bytes)) rows

abbrev pub timestamp_files : Option (File Timestamp) → List (Bytes × Bytes)
timestamp_files file = one_file file (λ t. codes "timestamp.json")

abbrev pub snapshot_files : Option (File Snapshot) → List (Bytes × Bytes)
snapshot_files file = one_file file (λ s. dotted s.version (codes "snapshot"))
