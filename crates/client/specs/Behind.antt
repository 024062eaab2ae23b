-- When a client's state is behind a server's, so that an update and a fetch bring it all that the server grants.
use Rattle.std.specs.Prelude.{◌≡◌, ◌≢◌, ◌⊎◌, ℕ, ◌<◌, ◌≤◌, List, [], ◌∷◌, ◌++◌, length, Some, None, Ok, IfSome, IsSomeAnd}
use Rattle.std.specs.List.{AllByRecursion}
use Rattle.document_parts.specs.Documents.{Profile, Timestamp, Snapshot, Targets, MetaFile}
use Rattle.metadata.specs.File.{Bytes, Name, File}
use Rattle.delegations.specs.Rows.{entry_of, row_at}
use Rattle.trust_rules.specs.State.{Trusted, State, NamesSnapshot, blob_at}
use Rattle.trust_rules.specs.Offers.{offer_root}

-- what is trusted after these roots, offered in order, of each the bytes
pub data AfterRoots : Trusted → List (Profile × Bytes) → Trusted → Type 0 where
  none : {C : Trusted} → AfterRoots C [] C
  one : {C D E : Trusted} {b : Profile × Bytes} {bs : List (Profile × Bytes)} → offer_root C b.1 (Ok D) → AfterRoots D bs E → AfterRoots C (b ∷ bs) E

-- roots are trusted, and nothing else
pub record IsBare (C : Trusted) : Type 0 where
  pub timestamp : C.timestamp ≡ None
  pub snapshot : C.snapshot ≡ None
  pub shelf : C.shelf ≡ []

-- the server's timestamp, or one of a lower version that names no higher version of the snapshot
abbrev pub IsOlderTimestamp : File Timestamp → File Timestamp → Type 0
IsOlderTimestamp new old =
    (old.bytes ≡ new.bytes) ⊎ ((old.body.version < new.body.version) × (old.body.snapshot.version ≤ new.body.snapshot.version))

-- the server's snapshot, or one that the server's timestamp does not name and each of whose names the server's lists at no lower version
abbrev pub IsOlderSnapshot : File Timestamp → File Snapshot → File Snapshot → Type 0
IsOlderSnapshot stamp new old =
    (old.bytes ≡ new.bytes)
    ⊎ ((¬ NamesSnapshot stamp old) × AllByRecursion (λ m. IsSomeAnd (entry_of new m.0) (λ entry. m.1.version ≤ entry.version)) old.body.meta)

-- the most rows of a shelf that has room for each role that a snapshot may list
abbrev pub most_rows : ℕ
most_rows = 3968

-- what is trusted is older than what the server trusts, whose timestamp and snapshot are live
pub record IsOlder (C S : Trusted) (now : ℕ) : Type 0 where
  pub stamp : File Timestamp
  pub snap : File Snapshot
  pub timestamp_held : S.timestamp ≡ Some stamp
  pub snapshot_held : S.snapshot ≡ Some snap
  pub timestamp_live : now < stamp.body.expires
  pub snapshot_live : now < snap.body.expires
  pub timestamp_older : IfSome C.timestamp (IsOlderTimestamp stamp)
  pub snapshot_older : IfSome C.snapshot (IsOlderSnapshot stamp snap)
  pub rows_shared : (role : Name) (entry : MetaFile) (file : File Targets) → entry_of snap role ≡ Some entry
      → row_at C.shelf role entry.version ≡ Some file → row_at S.shelf role entry.version ≡ Some file
  pub room : length C.shelf ≤ most_rows

-- The client's roots are a beginning of the server's, not empty and at most 64 fewer, and each blob of the client is one of the server. Behind
-- the later roots the client trusts nothing else, or is older.
pub record Behind (C S : State) (now : ℕ) : Type 0 where
  pub rooted : C.trusted.roots ≢ []
  pub later : List (Profile × Bytes)
  pub beginning : S.trusted.roots ≡ C.trusted.roots ++ later
  pub few : length later ≤ 64
  pub blobs_shared : (digest b : Bytes) → blob_at C.blobs digest ≡ Some b → blob_at S.blobs digest ≡ Some b
  pub caught_up : (E : Trusted) → AfterRoots C.trusted later E → IsBare E ⊎ IsOlder E S.trusted now
