-- The rows of a repository, as contracts see them.
use Rattle.std.specs.Prelude.{ℕ, List, [], length, map, option_map, Option, None, Vec}
use Rattle.std.specs.declared.alloc.Global.{Global}
use Rattle.std.specs.String.{string_bytes}
use Rattle.repository_rows.specs.declared.Contents.{Contents as Owned}
use Rattle.repository_rows.specs.declared.MetadataRows.{MetadataRows}

-- Each row is a key and its bytes, and that of a root has its profile between them. The key of a root, of the timestamp and of the
-- snapshot is its version; that of a targets document its role, as the bytes of its text, and its version; that of a target file its
-- digest, as 32 bytes.
pub record Contents : Type 0 where
  pub roots : List (ℕ × (ℕ × List ℕ))
  pub timestamp : Option (ℕ × List ℕ)
  pub snapshot : Option (ℕ × List ℕ)
  pub shelf : List ((List ℕ × ℕ) × List ℕ)
  pub blobs : List (List ℕ × List ℕ)

abbrev pub no_rows : Contents
no_rows = record { roots = []; timestamp = None; snapshot = None; shelf = []; blobs = [] }

-- digest and length of each target file
abbrev pub lengths_of : List (List ℕ × List ℕ) → List (List ℕ × ℕ)
lengths_of blobs = map (λ b. (b.0, length b.1)) blobs

-- ---- the code's rows

abbrev pub value_view : ℕ × Vec ℕ Global → ℕ × List ℕ
value_view r = (r.0, r.1.items)

abbrev pub slot_view : Option (ℕ × Vec ℕ Global) → Option (ℕ × List ℕ)
slot_view o = option_map value_view o

-- the rows of the metadata, and these of target files
abbrev pub contents_with : MetadataRows → List (List ℕ × List ℕ) → Contents
contents_with m blobs = record {
  roots = map (λ r. (r.0, (r.1, r.2.items))) m.roots.items;
  timestamp = slot_view m.timestamp;
  snapshot = slot_view m.snapshot;
  shelf = map (λ r. ((string_bytes r.0, r.1), r.2.items)) m.shelf.items;
  blobs = blobs;
}

abbrev pub contents_view : Owned → Contents
contents_view c = contents_with c.metadata (map (λ r. (r.0, r.1.items)) c.blobs.items)
