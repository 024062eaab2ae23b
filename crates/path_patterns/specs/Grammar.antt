-- Which texts are target paths, names, patterns, prefixes of digests and hex digits (this project's profile of TUF 1.0, sections 4.3 and
-- 4.5).
use Rattle.std.specs.Prelude.{◌≡◌, ◌≢◌, ℕ, ◌<◌, ◌≤◌, List, [], ◌∷◌, length, IsTrue, codes}
use Rattle.std.specs.List.{join_with_byte, list_all, AllByRecursion}
use Rattle.path_patterns.specs.Bytes.{is_segment_byte, is_pattern_byte, is_name_start, is_name_byte, is_hex}

-- a part of a path between slashes: not empty, and neither `.` nor `..`
abbrev pub IsSegment : List ℕ → Type 0
IsSegment s = (0 < length s) × IsTrue (list_all is_segment_byte s) × (s ≢ codes ".") × (s ≢ codes "..")

-- segments with a slash between each two, of 1 to 200 bytes
pub record IsTargetPath (path : List ℕ) : Type 0 where
  pub segments : List (List ℕ)
  pub each : AllByRecursion IsSegment segments
  pub joined : path ≡ join_with_byte 47 segments
  pub least : 0 < length path
  pub most : length path ≤ 200

-- the name of a role or of a step
abbrev pub IsName : List ℕ → Type 0
IsName [] = ⊥
IsName (c ∷ cs) = IsTrue (is_name_start c) × IsTrue (list_all is_name_byte cs) × (length cs < 32)

-- the bytes of a path, `*` and `?`
abbrev pub IsPattern : List ℕ → Type 0
IsPattern p = (0 < length p) × (length p ≤ 200) × IsTrue (list_all is_pattern_byte p)

-- the beginning of a digest in hex: 1 to 64 digits in lower case
abbrev pub IsHashPrefix : List ℕ → Type 0
IsHashPrefix p = (0 < length p) × (length p ≤ 64) × IsTrue (list_all is_hex p)

-- so many hex digits in lower case
abbrev pub IsHex : ℕ → List ℕ → Type 0
IsHex n text = (length text ≡ n) × IsTrue (list_all is_hex text)
