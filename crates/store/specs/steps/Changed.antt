-- What changes of a state make of its rows.
use Rattle.std.specs.Prelude.{ℕ, ◌-◌, Bool, List, [], ◌∷◌, ◌++◌, cond, length, Option, Some, None, option_map, unwrap_or}
use Rattle.metadata.specs.File.{Bytes, File}
use Rattle.document_parts.specs.Documents.{Root}
use Rattle.trust_rules.specs.Contents.{numbered, profile_number, shelf_rows}
use Rattle.repository_rows.specs.Contents.{Contents}
use Rattle.delegations.specs.Rows.{Place}
use Rattle.trust_rules.specs.Effects.{Effects, last_or}
use Rattle.repository_tables.specs.Changes.{emptied, without_blob, without_row}

-- the rows of new roots: the last has its own version, and they rise by one
abbrev pub new_roots : ℕ → List (File Root) → List (ℕ × (ℕ × Bytes))
new_roots last [] = []
new_roots last (root ∷ roots) = (last - length roots, (profile_number root.body.profile, root.bytes)) ∷ new_roots last roots

abbrev pub last_version : List (File Root) → ℕ
last_version roots = unwrap_or (option_map (λ root. root.body.version) (last_or None roots)) 0

-- what changes make of rows: new ones stand after those that are there
abbrev pub more_roots : List (ℕ × (ℕ × Bytes)) → Contents → Contents
more_roots new t = record t { roots = t.roots ++ new }

abbrev pub emptied_if : Bool → Contents → Contents
emptied_if gone t = cond gone (emptied t) t

abbrev pub new_timestamp : Option (ℕ × Bytes) → Contents → Contents
new_timestamp None t = t
new_timestamp (Some new) t = record t { timestamp = Some new }

abbrev pub new_snapshot : Option (ℕ × Bytes) → Contents → Contents
new_snapshot None t = t
new_snapshot (Some new) t = record t { snapshot = Some new }

abbrev pub more_rows : List (Place × Bytes) → Contents → Contents
more_rows new t = record t { shelf = t.shelf ++ new }

abbrev pub more_blobs : List (Bytes × Bytes) → Contents → Contents
more_blobs new t = record t { blobs = t.blobs ++ new }

-- rows go one after the other
abbrev pub rows_gone : List Place → Contents → Contents
rows_gone [] t = t
rows_gone (place ∷ places) t = rows_gone places (without_row place.0 place.1 t)

abbrev pub blobs_gone : List Bytes → Contents → Contents
blobs_gone [] t = t
blobs_gone (digest ∷ digests) t = blobs_gone digests (without_blob digest t)

-- what is put there
abbrev pub more : Effects → Contents → Contents
more E t =
    more_blobs E.blobs (more_rows (shelf_rows E.rows) (new_snapshot (option_map (numbered (λ b. b.version)) E.snapshot)
    (new_timestamp (option_map (numbered (λ b. b.version)) E.timestamp) (emptied_if E.emptied (more_roots (new_roots (last_version E.roots) E.roots) t)))))

abbrev pub changed : Effects → Contents → Contents
changed E t = more E (blobs_gone E.gone.blobs (rows_gone E.gone.rows t))
