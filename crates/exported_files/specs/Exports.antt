-- Which file stands where in the folder of an export, and what is done until it does.
use Rattle.std.specs.Prelude.{◌≡◌, List, [], ◌∷◌, ◌++◌, Some, None, codes}
use Rattle.metadata.specs.File.{Bytes}
use Rattle.path_patterns.specs.Names.{IsConsistentName}
use Rattle.served_files.specs.Served.{Files, ServedFile, metadata, target}
use Rattle.exported_files.specs.Events.{Event, answered, left_out, put, stood, stood_of}

-- where a metadata file of this name stands
abbrev pub metadata_place : Bytes → Bytes → Bytes
metadata_place folder name = folder ++ (codes "/metadata/" ++ name)

-- where the file of a target stands: under its consistent name (TUF 1.0, section 6.2)
pub record IsPlaceOf (folder path digest place : Bytes) : Type 0 where
  pub name : Bytes
  pub is_name : IsConsistentName name path digest
  pub is_place : place ≡ folder ++ (codes "/targets/" ++ name)

-- a metadata file of these bytes stood in its place, or was put there
pub data IsOfMetadata (folder name bytes : Bytes) : List Event → Type 0 where
  metadata_stood : IsOfMetadata folder name bytes (stood (metadata_place folder name) bytes ∷ [])
  metadata_put : IsOfMetadata folder name bytes (put (metadata_place folder name) bytes ∷ [])

-- a file of the target's digest stood in its place; or the target was asked for, and the bytes that were answered were put there; or it was not
-- granted, or left out
pub data IsOfTarget (folder path digest : Bytes) : List Event → Type 0 where
  target_stood : (place : Bytes) → IsPlaceOf folder path digest place → IsOfTarget folder path digest (stood_of place digest ∷ [])
  target_put : (place bytes : Bytes) → IsPlaceOf folder path digest place
      → IsOfTarget folder path digest (answered path digest (Some bytes) ∷ put place bytes ∷ [])
  target_denied : IsOfTarget folder path digest (answered path digest None ∷ [])
  target_left_out : (place bytes : Bytes) → IsPlaceOf folder path digest place
      → IsOfTarget folder path digest (answered path digest (Some bytes) ∷ left_out place ∷ [])

-- what is done about one file
abbrev pub IsOfFile : Bytes → ServedFile → List Event → Type 0
IsOfFile folder (metadata kind name bytes) events = IsOfMetadata folder name bytes events
IsOfFile folder (target path digest) events = IsOfTarget folder path digest events

-- what is done about one file after the other: the next is begun when the one before is done
pub data Exports (folder : Bytes) : List ServedFile → List Event → Type 0 where
  nothing : Exports folder [] []
  next : (told : List ServedFile) (events : List Event) (file : ServedFile) (more : List Event)
      → Exports folder told events → IsOfFile folder file more → Exports folder (told ++ file ∷ []) (events ++ more)

-- whatever it answers and whatever was asked and done before: it answers the same, and more was asked and done, of which this is so
pub record Did {M : Type 0} (Holds : Files → List Event → M → Type 0) (old new : M) (Is : List Event → Type 0) : Type 0 where
  pub so : (files : Files) (events : List Event) → Holds files events old → (more : List Event) × Holds files (events ++ more) new × Is more

-- the mirror answers these files, and what was asked and done exports what was told
pub record Exported {M : Type 0} (Holds : Files → List Event → M → Type 0) (folder : Bytes) (files : Files) (told : List ServedFile) (mirror : M) : Type 0 where
  pub events : List Event
  pub holds : Holds files events mirror
  pub exports : Exports folder told events
