-- What parts of the walk tell.
use Rattle.std.specs.Prelude.{◌≡◌, ℕ, ◌<◌, ◌≤◌, [], ◌∷◌, ◌++◌, List, Some, None, IsSome, Bool, true, false, Contains}
use Rattle.metadata.specs.File.{Bytes}
use Rattle.document_parts.specs.Documents.{Body, Listing, MetaFile}
use Rattle.document_parts.specs.Documents as plain
use Rattle.document_parts.specs.declared.documents.Kind.TheVariants as kinds
use Rattle.path_patterns.specs.Names.{dotted}
use Rattle.served_files.specs.Order.{LeadsTo, StandAfter}
use Rattle.served_files.specs.Served.{AreJust, Files, IsOfRole, IsOfRoots, IsOfSnapshot, ServedFile, metadata, root_name, snapshot_name, target}

-- whatever files it read from and had been told of: it reads from the same, and was told of more, of which this is so
pub record Became {V : Type 0} (Stands : Files → List ServedFile → V → Type 0) (old new : V) (Tells : Files → List ServedFile → Type 0) : Type 0 where
  pub so : (files : Files) (told : List ServedFile) → Stands files told old
      → (more : List ServedFile) × Stands files (told ++ more) new × Tells files more

-- just these files, and none before what it leads to
pub record AreInOrder (files : Files) (Is : ServedFile → Type 0) (list : List ServedFile) : Type 0 where
  pub are_just : AreJust Is list
  pub stand_after : (last : ℕ) → StandAfter (LeadsTo files last) list

-- one of these targets
abbrev pub IsListedIn : List Listing → ServedFile → Type 0
IsListedIn listings f = (l : Listing) × Contains listings l × (f ≡ target l.path l.digest)

-- of one of these roles
abbrev pub IsOfRolesIn : Files → List (Bytes × MetaFile) → ServedFile → Type 0
IsOfRolesIn files rows f = (role : Bytes) × (m : MetaFile) × Contains rows (role, m) × IsOfRole files (dotted m.version role) f

-- one of the targets that a document lists
abbrev pub IsListedBy : Body → ServedFile → Type 0
IsListedBy (plain.targets t) f = IsListedIn t.targets f
IsListedBy (plain.root r) f = ⊥
IsListedBy (plain.timestamp t) f = ⊥
IsListedBy (plain.snapshot s) f = ⊥
IsListedBy (plain.layout l) f = ⊥
IsListedBy (plain.link l) f = ⊥

-- of one of the roles that a document lists
abbrev pub IsOfRolesBy : Files → Body → ServedFile → Type 0
IsOfRolesBy files (plain.snapshot s) f = IsOfRolesIn files s.meta f
IsOfRolesBy files (plain.root r) f = ⊥
IsOfRolesBy files (plain.timestamp t) f = ⊥
IsOfRolesBy files (plain.targets t) f = ⊥
IsOfRolesBy files (plain.layout l) f = ⊥
IsOfRolesBy files (plain.link l) f = ⊥

-- of the snapshot that a document names
abbrev pub IsNamedBy : Files → Body → ServedFile → Type 0
IsNamedBy files (plain.timestamp t) f = IsOfSnapshot files (snapshot_name t.snapshot.version) f
IsNamedBy files (plain.root r) f = ⊥
IsNamedBy files (plain.snapshot s) f = ⊥
IsNamedBy files (plain.targets t) f = ⊥
IsNamedBy files (plain.layout l) f = ⊥
IsNamedBy files (plain.link l) f = ⊥

-- the root of this version, which is held, or nothing, as it is not
abbrev pub TellsRoot : Files → ℕ → Bool → List ServedFile → Type 0
TellsRoot files version true more = (bytes : Bytes) × (files (root_name version) ≡ Some bytes) × (more ≡ metadata kinds.Root (root_name version) bytes ∷ [])
TellsRoot files version false more = (files (root_name version) ≡ None) × (more ≡ [])

-- the roots after the version, each of which is held
pub record TellsRoots (files : Files) (after last : ℕ) (more : List ServedFile) : Type 0 where
  pub are_just : AreJust (IsOfRoots files after last) more
  pub are_held : (v : ℕ) → after < v → v ≤ last → IsSome (files (root_name v))
  pub stand_after : StandAfter (LeadsTo files last) more
