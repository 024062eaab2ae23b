-- Further members of a signed part, which decide nothing: the names of keys.
use Rattle.std.specs.Prelude.{◌≡◌, ◌≢◌, ℕ, List, codes}
use Rattle.std.specs.List.{AllByRecursion}
use Rattle.canonical_json.specs.Json.{Json, text, HasMember}

-- neither a quotation mark nor a backslash, so that it stands for itself between quotation marks
abbrev pub IsPlainByte : ℕ → Type 0
IsPlainByte b = (b ≢ 34) × (b ≢ 92)

abbrev pub IsPlain : List ℕ → Type 0
IsPlain t = AllByRecursion IsPlainByte t

-- the member `names` calls the key of this id so, by a plain text
pub record Calls (part : Json) (id name : List ℕ) : Type 0 where
  pub names : Json
  pub has : HasMember part (codes "names") names
  pub called : HasMember names id (text name)
  pub plain : IsPlain name
