-- In which order the files are told of that a client may ask for: none before what it leads to, and the timestamp last.
use Rattle.std.specs.Prelude.{◌≡◌, ◌≢◌, ℕ, List, [], ◌∷◌, ◌++◌, Contains}
use Rattle.metadata.specs.File.{Bytes}
use Rattle.document_parts.specs.declared.documents.Kind.TheVariants as kinds
use Rattle.served_files.specs.Served.{Files, IsHeldFile, IsOfRole, IsOfRoots, IsOfSnapshot, ServedFile, metadata, root_name}

-- A client that reads the first of these files may ask for the other one after it: targets metadata lead to what is of them, a snapshot to
-- what is of it, and a root to the later ones, up to the version `last`.
pub data LeadsTo (files : Files) (last : ℕ) (f g : ServedFile) : Type 0 where
  of_role : (name : Bytes) → IsHeldFile files kinds.Targets name f → IsOfRole files name g → g ≢ f → LeadsTo files last f g
  of_snapshot : (name : Bytes) → IsHeldFile files kinds.Snapshot name f → IsOfSnapshot files name g → g ≢ f → LeadsTo files last f g
  of_root : (version : ℕ) → IsHeldFile files kinds.Root (root_name version) f → IsOfRoots files version last g → LeadsTo files last f g

-- wherever a file stands in the list, what it leads to stands before it
pub record StandAfter (Leads : ServedFile → ServedFile → Type 0) (list : List ServedFile) : Type 0 where
  pub so : (before later : List ServedFile) (f g : ServedFile) → list ≡ before ++ f ∷ later → Leads f g → Contains before g

-- no file stands before what it leads to, and none after the timestamp
pub record IsInOrder (files : Files) (last : ℕ) (list : List ServedFile) : Type 0 where
  pub stand_after : StandAfter (LeadsTo files last) list
  pub timestamp_is_last : (before later : List ServedFile) (name bytes : Bytes) → list ≡ before ++ metadata kinds.Timestamp name bytes ∷ later → later ≡ []
