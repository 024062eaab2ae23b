-- The names of files in a consistent snapshot: a target's file name with the digest of the file before it, and a metadata file's
-- with the number of its version (TUF 1.0, section 6.2).
use Rattle.std.specs.Prelude.{◌≡◌, ◌≢◌, ℕ, ◌<◌, List, [], ◌∷◌, ◌++◌, length, ◌⊎◌, Option, Some, None, codes, decimal}
use Rattle.std.specs.List.{AllByRecursion}
use Rattle.hex.specs.Hex.{encode_lower}

-- 32 bytes
abbrev pub IsDigest : List ℕ → Type 0
IsDigest d = (length d ≡ 32) × AllByRecursion (λ b. b < 256) d

-- what stands before the last segment: nothing, or a text that ends with a slash
abbrev pub IsFolder : List ℕ → Type 0
IsFolder text = (text ≡ []) ⊎ ((front : List ℕ) × (text ≡ front ++ 47 ∷ []))

-- the last segment is what stands behind the last slash, or the whole text where there is none
pub record IsCutAtLast (text folder last : List ℕ) : Type 0 where
  pub is_folder : IsFolder folder
  pub is_last : AllByRecursion (λ b. b ≢ 47) last
  pub whole : text ≡ folder ++ last

-- The last segment of the text is the digest's 64 hex digits, a dot and some name. The path is the text
-- without the digits and the dot.
pub record IsConsistentName (text path digest : List ℕ) : Type 0 where
  pub folder : List ℕ
  pub name : List ℕ
  pub is_folder : IsFolder folder
  pub is_last : AllByRecursion (λ b. b ≢ 47) name
  pub not_empty : 0 < length name
  pub is_digest : IsDigest digest
  pub with_digest : text ≡ folder ++ (encode_lower digest ++ 46 ∷ name)
  pub without : path ≡ folder ++ name

-- which path a text asks for, and with which digest
abbrev pub IsNameOf : List ℕ → List ℕ → Option (List ℕ) → Type 0
IsNameOf text path (Some digest) = IsConsistentName text path digest
IsNameOf text path None = (path ≡ text) × ((p d : List ℕ) → IsConsistentName text p d → ⊥)

-- the name of the metadata file of this version and role: VERSION.ROLE.json
abbrev pub dotted : ℕ → List ℕ → List ℕ
dotted version role = decimal version ++ (codes "." ++ (role ++ codes ".json"))
