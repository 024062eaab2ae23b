-- The files that rows spell.
use Rattle.std.specs.Prelude.{◌≡◌, ℕ, ◌-◌, List, [], ◌∷◌, length, Option, Some, None}
use Rattle.std.specs.List.{AllZip}
use Rattle.path_patterns.specs.Grammar.{IsName}
use Rattle.document_parts.specs.Documents.{Profile, Root, Targets}
use Rattle.metadata.specs.File.{Bytes, File, Form, IsFileOf, root_form, timestamp_form, snapshot_form, targets_form}
use Rattle.delegations.specs.Rows.{Place}
use Rattle.trust_rules.specs.Effects.{Effects}
use Rattle.trust_rules.specs.Contents.{numbered, root_row_of}
use Rattle.repository_rows.specs.Contents.{Contents}

-- the file of a row: its version, its bytes
pub record IsStored {A : Type 0} (form : Form A) (version : A → ℕ) (row : ℕ × Bytes) (file : File A) : Type 0 where
  pub document : IsFileOf form file
  pub is : numbered version file ≡ row

-- the root of a row: its version, its profile, its bytes
pub record IsStoredRoot (row : ℕ × (ℕ × Bytes)) (file : File Root) : Type 0 where
  pub document : IsFileOf root_form file
  pub is : root_row_of file ≡ row

pub record IsShelved (row : Place × Bytes) (held : Place × File Targets) : Type 0 where
  pub role : IsName row.0.0
  pub document : IsFileOf targets_form held.1
  pub is : (held.0, held.1.bytes) ≡ row

abbrev pub Together : {A B : Type 0} → (A → B → Type 0) → Option A → Option B → Type 0
Together R None None = Unit {0}
Together R None (Some y) = ⊥
Together R (Some x) None = ⊥
Together R (Some x) (Some y) = R x y

-- the files of all rows
pub record AreStored (C : Contents) (E : Effects) : Type 0 where
  pub roots : AllZip IsStoredRoot C.roots E.roots
  pub timestamp : Together (IsStored timestamp_form (λ t. t.version)) C.timestamp E.timestamp
  pub snapshot : Together (IsStored snapshot_form (λ s. s.version)) C.snapshot E.snapshot
  pub shelf : AllZip IsShelved C.shelf E.rows
  pub blobs : E.blobs ≡ C.blobs

-- version and bytes of the roots before the one with this version
abbrev pub earlier_roots : ℕ → List (Profile × Bytes) → List (ℕ × Bytes)
earlier_roots version [] = []
earlier_roots version (b ∷ bs) = (version - length (b ∷ bs), b.1) ∷ earlier_roots version bs
