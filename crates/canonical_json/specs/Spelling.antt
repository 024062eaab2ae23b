-- The one spelling of a value (OLPC wiki, "Canonical JSON", the grammar; TUF 1.0, section 4.1, names
-- it). Bytes by their codes: 34 is a quotation mark, 92 a backslash, 44 a comma,
-- 58 a colon, 91 and 93 brackets, 123 and 125 braces, 45 a minus sign.
use Rattle.std.specs.Prelude.{◌≡◌, ℕ, zero, suc, ◌+◌, ◌≤◌, ℤ, pos, negsuc, List, [], ◌∷◌, ◌++◌, true, false, ◌==◌, ◌||◌, if◌then◌else◌, flat_map, map, codes, IsUtf8, FitsSigned}
use Rattle.std.specs.List.{AllByRecursion, join_with_byte}
use Rattle.std.specs.Int.{w64}
use Rattle.std.specs.Int.Digits.{digits_of}
use Rattle.std.specs.Cmp.Lexicographic.{slice_cmp}
use Rattle.std.specs.Ordering.{nat_cmp}
use Rattle.std.specs.declared.cmp.Ordering.TheVariants.{Less}
use Rattle.canonical_json.specs.Json.{Json, null, boolean, integer, text, array, object, Items, no_items, item, Members, no_members, member, Everywhere, EachMember, depth, names}

-- a quotation mark and a backslash stand behind a backslash, every other byte stands for itself
abbrev pub byte_spelling : ℕ → List ℕ
byte_spelling b = if (b == 34) || (b == 92) then 92 ∷ b ∷ [] else b ∷ []

abbrev pub text_spelling : List ℕ → List ℕ
text_spelling bytes = 34 ∷ flat_map byte_spelling bytes ++ 34 ∷ []

-- what stands before the value of a member: its name with its marks, and a colon
abbrev pub member_front : List ℕ → List ℕ
member_front name = text_spelling name ++ 58 ∷ []

-- the decimal digits of a number of any size, without a leading zero. (std's `decimal` is for numbers of at
-- most 64 digits.)
unfoldable pub numeral : ℕ → List ℕ
numeral zero = 48 ∷ []
numeral (suc n) = map (λ d. 48 + d) (digits_of 10 (suc n))

-- there is no minus zero
abbrev pub integer_spelling : ℤ → List ℕ
integer_spelling (pos n) = numeral n
integer_spelling (negsuc n) = 45 ∷ numeral (suc n)

abbrev mutual
  pub spelling : Json → List ℕ
  spelling null = codes "null"
  spelling (boolean true) = codes "true"
  spelling (boolean false) = codes "false"
  spelling (integer z) = integer_spelling z
  spelling (text bytes) = text_spelling bytes
  spelling (array vs) = 91 ∷ join_with_byte 44 (item_spellings vs) ++ 93 ∷ []
  spelling (object ms) = 123 ∷ join_with_byte 44 (member_spellings ms) ++ 125 ∷ []

  pub item_spellings : Items → List (List ℕ)
  item_spellings no_items = []
  item_spellings (item v vs) = spelling v ∷ item_spellings vs

  pub member_spellings : Members → List (List ℕ)
  member_spellings no_members = []
  member_spellings (member n v ms) = (text_spelling n ++ 58 ∷ spelling v) ∷ member_spellings ms

-- one name stands before another in the order of their bytes
abbrev pub IsBefore : List ℕ → List ℕ → Type 0
IsBefore a b = slice_cmp nat_cmp a b ≡ Less

-- each name stands before the next
abbrev pub AreRising : List (List ℕ) → Type 0
AreRising [] = Unit {0}
AreRising (a ∷ []) = Unit {0}
AreRising (a ∷ b ∷ ns) = IsBefore a b × AreRising (b ∷ ns)

-- a text is UTF-8, and so are an object's names, which rise strictly
abbrev pub IsSound : Json → Type 0
IsSound (text bytes) = IsUtf8 bytes
IsSound (object ms) = AllByRecursion IsUtf8 (names ms) × AreRising (names ms)
IsSound v = Unit {0}

-- what a value of the code always has: its texts and names are UTF-8
abbrev pub IsTextual : Json → Type 0
IsTextual (text bytes) = IsUtf8 bytes
IsTextual (object ms) = AllByRecursion IsUtf8 (names ms)
IsTextual v = Unit {0}

abbrev pub IntegerFits : Json → Type 0
IntegerFits (integer z) = FitsSigned w64 z
IntegerFits v = Unit {0}

-- both, as each value of the code has it
abbrev pub IsOfCode : Json → Type 0
IsOfCode v = IsTextual v × IntegerFits v

-- the same of the members of an object, and their names are UTF-8
abbrev pub MembersOfCode : Members → Type 0
MembersOfCode ms = AllByRecursion IsUtf8 (names ms) × EachMember IsOfCode ms

-- at most this many lists and objects stand inside one another
abbrev pub max_depth : ℕ
max_depth = 32

-- a value of the grammar, of any size
abbrev pub IsProper : Json → Type 0
IsProper v = Everywhere IsSound v

-- a value of the grammar within the limits on integers and nesting
pub record IsAllowed (v : Json) : Type 0 where
  pub proper : IsProper v
  pub integers : Everywhere IntegerFits v
  pub nesting : depth v ≤ max_depth

-- the bytes are the canonical text of the value
pub record IsCanonical (v : Json) (bytes : List ℕ) : Type 0 where
  pub allowed : IsAllowed v
  pub spelled : bytes ≡ spelling v
