-- A state that holds a part of another one, and what a request for a target misses there. (TUF 1.0, section 5.6.7; in-toto 1.0, section 5.2)
use Rattle.std.specs.Prelude.{◌≡◌, ◌≤◌, ℕ, [], ◌∷◌, length, Option, Some, None, Ok, Err, IfSome}
use Rattle.std.specs.List.{AllByRecursion}
use Rattle.path_patterns.specs.Grammar.{IsTargetPath}
use Rattle.path_patterns.specs.Names.{IsDigest}
use Rattle.keys_roles.specs.steps.Counting.{IsIn}
use Rattle.document_parts.specs.Documents.{Root, Snapshot, Targets, MetaFile, LayoutReference, Listing}
use Rattle.metadata.specs.File.{Bytes, Name, Names, File}
use Rattle.denials.specs.Orders.{RoleMissing, BlobMissing, Denied, Judged, Stop}
use Rattle.delegations.specs.Rows.{entry_of, row_at}
use Rattle.delegations.specs.Search.{Found, search, shelf_of}
use Rattle.trust_rules.specs.State.{State, blob_at}
use Rattle.trust_rules.specs.Offers.{live_snapshot}
use Rattle.trust_rules.specs.Grants.{Listed, grants, listed}

-- the same root, timestamp and snapshot; each row at a version that the snapshot lists, and each blob, is one of the other
pub record IsPart (D S : State) : Type 0 where
  pub root : D.trusted.root ≡ S.trusted.root
  pub timestamp : D.trusted.timestamp ≡ S.trusted.timestamp
  pub snapshot : D.trusted.snapshot ≡ S.trusted.snapshot
  pub rows : (snap : File Snapshot) → S.trusted.snapshot ≡ Some snap → (role : Name) (entry : MetaFile) (file : File Targets)
      → entry_of snap role ≡ Some entry → row_at D.trusted.shelf role entry.version ≡ Some file → row_at S.trusted.shelf role entry.version ≡ Some file
  pub blobs : (digest b : Bytes) → blob_at D.blobs digest ≡ Some b → blob_at S.blobs digest ≡ Some b

-- no document and no file is missing
abbrev pub IsFound : Stop → Type 0
IsFound (Denied (RoleMissing role version)) = ⊥
IsFound (Denied (BlobMissing path digest len)) = ⊥
IsFound s = Unit {0}

abbrev pub IsThere : {A : Type 0} → Judged A → Type 0
IsThere (Ok a) = Unit {0}
IsThere (Err s) = IsFound s

-- the files that a layout needs, the layout itself first
abbrev pub support_paths : Option LayoutReference → Names
support_paths None = []
support_paths (Some reference) = reference.path ∷ reference.links

-- of a listing that was read: paths are paths of targets, also those of what a layout needs, of which there are at most 65
abbrev pub IsProperListing : Listing → Type 0
IsProperListing l = IsTargetPath l.path × IsDigest l.digest × IfSome l.layout (λ r. AllByRecursion IsTargetPath (r.path ∷ r.links) × (length r.links ≤ 64))

-- A document is missed: by the search for some path, which finds a listing in the other state where that grants the target.
pub record MissesRole (D S : State) (path : Bytes) (now : ℕ) (role : Name) (version : ℕ) : Type 0 where
  pub root : File Root
  pub snap : File Snapshot
  pub trusts : D.trusted.root ≡ Some root
  pub live : live_snapshot D.trusted.timestamp D.trusted.snapshot root now (Ok snap)
  pub at : Bytes
  pub misses : search (shelf_of root snap D.trusted.shelf) at now (Err (Denied (RoleMissing role version)))
  pub finds : (b : Bytes) → grants S path None now (Ok b) → (found : Found) × search (shelf_of root snap S.trusted.shelf) at now (Ok found)

-- A file is missed: of the target itself, or of one of those that its layout needs. Under its own path it has this digest and length, which the other
-- state grants there where it grants the target.
pub record MissesBlob (D S : State) (path : Bytes) (now : ℕ) (at digest : Bytes) (len : ℕ) : Type 0 where
  pub listing : Listed
  pub lists : listed S.trusted path now (Ok listing)
  pub among : IsIn (path ∷ support_paths listing.listing.layout) at
  pub own : Listed
  pub lists_own : listed S.trusted at now (Ok own)
  pub its_digest : own.listing.digest ≡ digest
  pub its_length : own.listing.len ≡ len
  pub absent : blob_at D.blobs digest ≡ None
  pub granted : (b : Bytes) → grants S path None now (Ok b) → (c : Bytes) × grants S at (Some digest) now (Ok c)
