-- Which files a client may ask for (TUF 1.0, sections 5.3 to 5.7 and 6.2).
use Rattle.std.specs.Prelude.{◌≡◌, ℕ, ◌<◌, ◌≤◌, List, Option, Some, None, IsSome, Contains, codes}
use Rattle.metadata.specs.File.{Bytes}
use Rattle.metadata.specs.Shape.{IsDocument}
use Rattle.document_parts.specs.Documents.{Body, Document, Listing, MetaFile, Snapshot, Targets, Timestamp, snapshot, targets, timestamp}
use Rattle.document_parts.specs.declared.documents.Kind.{Kind}
use Rattle.document_parts.specs.declared.documents.Kind.TheVariants as kinds
use Rattle.path_patterns.specs.Names.{dotted}

-- what is answered for each name of a metadata file: its bytes, if it is held
abbrev pub Files : Type 0
Files = Bytes → Option Bytes

-- a metadata file, by the kind of document that it is read as, its name and its bytes, or a target, by its path and the digest asked for
pub data ServedFile : Type 0 where
  metadata : Kind → Bytes → Bytes → ServedFile
  target : Bytes → Bytes → ServedFile

abbrev pub root_name : ℕ → Bytes
root_name version = dotted version (codes "root")

abbrev pub timestamp_name : Bytes
timestamp_name = codes "timestamp.json"

abbrev pub snapshot_name : ℕ → Bytes
snapshot_name version = dotted version (codes "snapshot")

-- a document of the kind with this body is held under the name
pub record Says (files : Files) (kind : Kind) (name : Bytes) (body : Body) : Type 0 where
  pub bytes : Bytes
  pub document : Document
  pub is_held : files name ≡ Some bytes
  pub is_document : IsDocument kind bytes document
  pub has_body : document.body ≡ body

-- the held file of the name, which is read as this kind of document
abbrev pub IsHeldFile : Files → Kind → Bytes → ServedFile → Type 0
IsHeldFile files kind name f = (bytes : Bytes) × (files name ≡ Some bytes) × (f ≡ metadata kind name bytes)

-- of a root after the version `after`, from which on each is held up to the last
pub record IsOfRoots (files : Files) (after last : ℕ) (f : ServedFile) : Type 0 where
  pub version : ℕ
  pub is_behind : after < version
  pub is_within : version ≤ last
  pub are_held : (v : ℕ) → version ≤ v → v ≤ last → IsSome (files (root_name v))
  pub is_file : IsHeldFile files kinds.Root (root_name version) f

-- of the targets metadata of this name: itself, and each target that it lists
pub data IsOfRole (files : Files) (name : Bytes) (f : ServedFile) : Type 0 where
  role_itself : IsHeldFile files kinds.Targets name f → IsOfRole files name f
  lists_target : (t : Targets) (l : Listing) → Says files kinds.Targets name (targets t) → Contains t.targets l
      → f ≡ target l.path l.digest → IsOfRole files name f

-- of the snapshot of this name: itself, and what is of the role and the version that it lists
pub data IsOfSnapshot (files : Files) (name : Bytes) (f : ServedFile) : Type 0 where
  snapshot_itself : IsHeldFile files kinds.Snapshot name f → IsOfSnapshot files name f
  lists_role : (s : Snapshot) (role : Bytes) (m : MetaFile) → Says files kinds.Snapshot name (snapshot s) → Contains s.meta (role, m)
      → IsOfRole files (dotted m.version role) f → IsOfSnapshot files name f

-- of the timestamp: itself, and what is of the snapshot that it names
pub data IsOfTimestamp (files : Files) (f : ServedFile) : Type 0 where
  timestamp_itself : IsHeldFile files kinds.Timestamp timestamp_name f → IsOfTimestamp files f
  names_snapshot : (t : Timestamp) → Says files kinds.Timestamp timestamp_name (timestamp t)
      → IsOfSnapshot files (snapshot_name t.snapshot.version) f → IsOfTimestamp files f

-- A client that trusts the root of the version `after`, or none at 0, may ask for this file, where the last root has the version `last`
pub data IsServed (files : Files) (after last : ℕ) (f : ServedFile) : Type 0 where
  of_roots : IsOfRoots files after last f → IsServed files after last f
  of_timestamp : IsOfTimestamp files f → IsServed files after last f

-- the bytes are a document of the kind, and each that they are has this body
pub record IsBodyOf (kind : Kind) (bytes : Bytes) (body : Body) : Type 0 where
  pub document : Document
  pub is_document : IsDocument kind bytes document
  pub has_body : (d : Document) → IsDocument kind bytes d → d.body ≡ body

-- what a file says that is read as this kind: the body of the document that it is, or nothing, as it is no document of this kind
abbrev pub IsSaid : Kind → Bytes → Option Body → Type 0
IsSaid kind bytes (Some body) = IsBodyOf kind bytes body
IsSaid kind bytes None = (d : Document) → IsDocument kind bytes d → ⊥

-- the list has each of these files, and no other
pub record AreJust (Is : ServedFile → Type 0) (list : List ServedFile) : Type 0 where
  pub sound : (f : ServedFile) → Contains list f → Is f
  pub complete : (f : ServedFile) → Is f → Contains list f
