-- What a change makes of the rows.
use Rattle.std.specs.Prelude.{ℕ, List, [], ◌∷◌, ◌++◌, Some, None, Bool, filter, not, bytes_eq, ◌==◌, ◌&&◌}
use Rattle.hex.specs.Hex.{encode_lower}
use Rattle.repository_rows.specs.Contents.{Contents}
use Rattle.repository_tables.specs.declared.change.Change.{Change}
use Rattle.repository_tables.specs.declared.change.Change.TheVariants.{PutRoot, Emptied, PutTimestamp, PutSnapshot, PutRow, PutBlob, RowGone, BlobGone}

-- a put stands after the rows that are there
abbrev pub with_root : ℕ × (ℕ × List ℕ) → Contents → Contents
with_root r t = record t { roots = t.roots ++ r ∷ [] }

abbrev pub with_timestamp : ℕ × List ℕ → Contents → Contents
with_timestamp r t = record t { timestamp = Some r }

abbrev pub with_snapshot : ℕ × List ℕ → Contents → Contents
with_snapshot r t = record t { snapshot = Some r }

abbrev pub with_row : (List ℕ × ℕ) × List ℕ → Contents → Contents
with_row r t = record t { shelf = t.shelf ++ r ∷ [] }

abbrev pub with_blob : List ℕ × List ℕ → Contents → Contents
with_blob r t = record t { blobs = t.blobs ++ r ∷ [] }

abbrev pub emptied : Contents → Contents
emptied t = record t { timestamp = None; snapshot = None; shelf = [] }

-- the row of a key goes, if it is there

abbrev pub is_row_of : List ℕ → ℕ → (List ℕ × ℕ) × List ℕ → Bool
is_row_of role version r = bytes_eq r.0.0 role && (r.0.1 == version)

abbrev pub without_row : List ℕ → ℕ → Contents → Contents
without_row role version t = record t { shelf = filter (λ r. not (is_row_of role version r)) t.shelf }

-- digests are compared as the digits that stand in the table
abbrev pub is_blob_of : List ℕ → List ℕ × List ℕ → Bool
is_blob_of digest r = bytes_eq (encode_lower r.0) (encode_lower digest)

abbrev pub without_blob : List ℕ → Contents → Contents
without_blob digest t = record t { blobs = filter (λ r. not (is_blob_of digest r)) t.blobs }

abbrev pub after : Change → Contents → Contents
after (PutRoot version profile bytes) t = with_root (version, (profile, bytes.now)) t
after Emptied t = emptied t
after (PutTimestamp version bytes) t = with_timestamp (version, bytes.now) t
after (PutSnapshot version bytes) t = with_snapshot (version, bytes.now) t
after (PutRow role version bytes) t = with_row ((role.now, version), bytes.now) t
after (PutBlob digest bytes) t = with_blob (digest.now, bytes.now) t
after (RowGone role version) t = without_row role.now version t
after (BlobGone digest) t = without_blob digest.now t

abbrev pub after_all : List Change → Contents → Contents
after_all [] t = t
after_all (c ∷ cs) t = after_all cs (after c t)
