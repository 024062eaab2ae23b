-- Which names can stand as a word of a shell's line: 45 is `-`, 46 is `.`, 95 is `_`.
use Rattle.std.specs.Prelude.{◌≢◌, ℕ, ◌<◌, ◌≤◌, Bool, ◌||◌, ◌&&◌, ◌==◌, nat_le, List, length, slice_index, IsTrue}
use Rattle.std.specs.List.{list_all}

abbrev pub is_name_byte : ℕ → Bool
is_name_byte b = (nat_le 65 b && nat_le b 90) || (nat_le 97 b && nat_le b 122) || (nat_le 48 b && nat_le b 57) || (b == 46) || (b == 95) || (b == 45)

-- 1 to 64 of these bytes, the first of them no `-`
pub record IsPlainName (text : List ℕ) : Type 0 where
  pub least : 0 < length text
  pub most : length text ≤ 64
  pub each : IsTrue (list_all is_name_byte text)
  pub no_dash : slice_index text 0 ≢ 45
