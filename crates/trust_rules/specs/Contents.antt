-- What the tables of a repository hold.
use Rattle.std.specs.Prelude.{ℕ, suc, List, [], ◌∷◌, map, option_map}
use Rattle.repository_rows.specs.Contents.{Contents}
use Rattle.document_parts.specs.Documents.{Profile, first_profile, second_profile, Root}
use Rattle.metadata.specs.File.{Bytes, File}
use Rattle.delegations.specs.Rows.{Place, Rows}
use Rattle.trust_rules.specs.State.{Trusted, State, root_version}

-- a profile as the number that a row has
abbrev pub profile_number : Profile → ℕ
profile_number first_profile = 1
profile_number second_profile = 2

-- the version, the profile and the bytes of each root
abbrev pub root_rows : Trusted → ℕ → List (Profile × Bytes) → List (ℕ × (ℕ × Bytes))
root_rows T k [] = []
root_rows T k (b ∷ bs) = (root_version T k, (profile_number b.0, b.1)) ∷ root_rows T (suc k) bs

-- the version and the bytes in each row of a root
abbrev pub without_profiles : List (ℕ × (ℕ × Bytes)) → List (ℕ × Bytes)
without_profiles rows = map (λ row. (row.0, row.1.1)) rows

-- the row of one root, from its file
abbrev pub root_row_of : File Root → ℕ × (ℕ × Bytes)
root_row_of file = (file.body.version, (profile_number file.body.profile, file.bytes))

-- the version and the bytes of a file
abbrev pub numbered : {A : Type 0} → (A → ℕ) → File A → ℕ × Bytes
numbered version file = (version file.body, file.bytes)

abbrev pub shelf_rows : Rows → List (Place × Bytes)
shelf_rows rows = map (λ row. (row.0, row.1.bytes)) rows

-- the rows of a state, each table in the order of its keys
abbrev pub contents_of : State → Contents
contents_of S = record {
  roots = root_rows S.trusted 0 S.trusted.roots;
  timestamp = option_map (numbered (λ t. t.version)) S.trusted.timestamp;
  snapshot = option_map (numbered (λ s. s.version)) S.trusted.snapshot;
  shelf = shelf_rows S.trusted.shelf;
  blobs = S.blobs;
}
