-- The canonical form of any JSON, as `serde_json` reads it: a number has to be an integer of 64 bits, and an object has
-- its members in the order of their names.
use Rattle.std.specs.Prelude.{◌≡◌, ℕ, ◌<◌, List, Option, Some, option_map, option_and_then, IsUtf8}
use Rattle.canonical_json.specs.Json.{Json, null, boolean, integer, text, array, object, Items, no_items, item, Members, no_members, member, depth}
use Rattle.canonical_json.specs.Spelling.{IsCanonical, IsProper, max_depth}
use Rattle.serde_json.specs.Data as loose
use Rattle.serde_json.specs.Find.{as_i64}
use Rattle.serde_json.specs.Read.{read}

-- the value of canonical JSON that loose JSON stands for, or none where a number is no i64. (`serde_json` keeps an
-- object's members in the order of their names, and of two of one name the later.)
abbrev mutual
  pub plain : loose.Data → Option Json
  plain loose.null = Some null
  plain (loose.boolean b) = Some (boolean b)
  plain (loose.number n) = option_map integer (as_i64 n)
  plain (loose.string s) = Some (text s)
  plain (loose.array ds) = option_map array (plain_items ds)
  plain (loose.object ms) = option_map object (plain_members ms)

  pub plain_items : loose.Items → Option Items
  plain_items loose.no_items = Some no_items
  plain_items (loose.item d ds) = option_and_then (λ v. option_map (item v) (plain_items ds)) (plain d)

  pub plain_members : loose.Members → Option Members
  plain_members loose.no_members = Some no_members
  plain_members (loose.member n d ms) = option_and_then (λ v. option_map (member n v) (plain_members ms)) (plain d)

-- what holds of an object's members in the code: names are UTF-8 and rise, values are proper
abbrev pub IsProperObject : Members → Type 0
IsProperObject ms = IsProper (object ms)

-- the data that `serde_json` reads from the input
abbrev pub Reads : List ℕ → loose.Data → Type 0
Reads input given = IsUtf8 input × (read input ≡ Some given)

-- the output is the canonical text of what the input says
pub record IsCanonicalForm (input output : List ℕ) : Type 0 where
  pub given : loose.Data
  pub value : Json
  pub reads : Reads input given
  pub stands : plain given ≡ Some value
  pub spelled : IsCanonical value output

-- nothing is read from the input, or a number in it is no i64, or it nests too deep
abbrev pub HasNoCanonicalForm : List ℕ → Type 0
HasNoCanonicalForm input = (given : loose.Data) (value : Json) → Reads input given → plain given ≡ Some value → max_depth < depth value
