-- The segments of a path, as tests.
use Rattle.std.specs.Prelude.{ℕ, List, Bool, not, ◌==◌, ◌&&◌, length, codes, bytes_eq}
use Rattle.std.specs.List.{list_all, slice_split}
use Rattle.path_patterns.specs.Bytes.{is_segment_byte}

-- a part of a path between slashes
abbrev pub is_segment : List ℕ → Bool
is_segment s =
    not (length s == 0) && not (bytes_eq s (codes ".")) && not (bytes_eq s (codes "..")) && list_all is_segment_byte s

-- parts with a slash between each two
abbrev pub are_segments : List ℕ → Bool
are_segments text = list_all is_segment (slice_split (λ b. b == 47) text)
