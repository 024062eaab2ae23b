-- The leaf of a signature that is spelled in hex digits: q stands first, in four bytes (RFC 8554, section 5.4).
use Rattle.std.specs.Prelude.{◌≡◌, ◌<◌, ◌^◌, ◌++◌, ℕ, List}
use Rattle.hex.specs.Hex.{encode_lower}
use Rattle.lms.specs.Text.{u32}

abbrev pub BeginsWithLeaf : List ℕ → ℕ → Type 0
BeginsWithLeaf digits leaf = (leaf < 2 ^ 32) × ((rest : List ℕ) × (digits ≡ encode_lower (u32 leaf) ++ rest))
