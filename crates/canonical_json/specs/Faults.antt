-- Where and why bytes are no canonical text, and why a value has none.
use Rattle.std.specs.Prelude.{◌≡◌, ℕ, suc, ◌+◌, ◌<◌, ◌≤◌, List, [], ◌∷◌, ◌++◌, length, take, slice_index, Option, Some, None, ◌⊎◌, cond, nat_lt}
use Rattle.std.specs.List.{filter_map}
use Rattle.std.specs.Cmp.Lexicographic.{slice_cmp}
use Rattle.std.specs.Ordering.{nat_cmp, is_lt}
use Rattle.canonical_json.specs.Json.{Json, IsInteger, array, object, Items, no_items, item, Members, no_members, member}
use Rattle.canonical_json.specs.Spelling.{spelling, IsProper, IsAllowed, IsCanonical, max_depth}
use Rattle.canonical_json.specs.declared.ReadFault.{ReadFault}
use Rattle.canonical_json.specs.declared.ReadFault.TheVariants.{NotCanonical, TooDeep, IntegerRange, OutOfMemory}
use Rattle.canonical_json.specs.declared.WriteFault.{WriteFault}
use Rattle.canonical_json.specs.declared.WriteFault.TheVariants as write_faults

-- ---- reading

-- the bytes begin the text of some value of which P holds, or are that text
abbrev pub Begins : (Json → Type 0) → List ℕ → Type 0
Begins P bytes = (v : Json) × (more : List ℕ) × P v × (bytes ++ more ≡ spelling v)

abbrev pub IsOpening : ℕ → Type 0
IsOpening c = (c ≡ 91) ⊎ (c ≡ 123)

abbrev pub IsDigit : ℕ → Type 0
IsDigit c = (48 ≤ c) × (c ≤ 57)

-- an integer goes on with another digit
abbrev pub GoesOnInDigits : Json → List ℕ → Type 0
GoesOnInDigits v more = IsInteger v × ((digit : ℕ) × (rest : List ℕ) × (more ≡ digit ∷ rest) × IsDigit digit)

-- only a limit forbids the byte at this place: with it the bytes begin a text of the grammar
abbrev pub OnlyLimitForbids : List ℕ → ℕ → Type 0
OnlyLimitForbids bytes place = (place < length bytes) × Begins IsProper (take (place + 1) bytes)

-- which fault the byte at this place makes, or the end of the bytes
abbrev pub FaultAt : List ℕ → ℕ → ReadFault → Type 0
FaultAt bytes place TooDeep = OnlyLimitForbids bytes place × IsOpening (slice_index bytes place)
FaultAt bytes place IntegerRange = OnlyLimitForbids bytes place × IsDigit (slice_index bytes place)
FaultAt bytes place NotCanonical = OnlyLimitForbids bytes place → ⊥
FaultAt bytes place OutOfMemory = ⊥

-- the longest beginning of the bytes that some canonical text begins with
pub record IsLongestBeginning (bytes : List ℕ) (place : ℕ) : Type 0 where
  pub within : place ≤ length bytes
  pub begins : Begins IsAllowed (take place bytes)
  pub longest : (k : ℕ) → place < k → k ≤ length bytes → Begins IsAllowed (take k bytes) → ⊥

-- The bytes are no canonical text, and the byte behind their longest beginning, or their end, makes this fault.
pub record IsReadFault (bytes : List ℕ) (fault : ReadFault) : Type 0 where
  pub none : (v : Json) → IsCanonical v bytes → ⊥
  pub place : ℕ
  pub longest : IsLongestBeginning bytes place
  pub kind : FaultAt bytes place fault

-- ---- writing

-- what a reader meets along the text of a value: a bracket that opens a list or an object inside so many
-- others, or a member's name behind the name before it
pub data Mark : Type 0 where
  opening : ℕ → Mark
  next_name : List ℕ → List ℕ → Mark

-- the first name of an object has none before it
abbrev pub name_mark : Option (List ℕ) → List ℕ → List Mark
name_mark None n = []
name_mark (Some m) n = next_name m n ∷ []

-- the marks of a value that stands inside so many lists and objects, in the order of its text
abbrev mutual
  pub marks : ℕ → Json → List Mark
  marks outer (array vs) = opening outer ∷ item_marks (suc outer) vs
  marks outer (object ms) = opening outer ∷ member_marks (suc outer) None ms
  marks outer v = []

  pub item_marks : ℕ → Items → List Mark
  item_marks outer no_items = []
  item_marks outer (item v vs) = marks outer v ++ item_marks outer vs

  pub member_marks : ℕ → Option (List ℕ) → Members → List Mark
  member_marks outer before no_members = []
  member_marks outer before (member n v ms) = name_mark before n ++ (marks outer v ++ member_marks outer (Some n) ms)

-- what is wrong with a mark
abbrev pub mark_fault : Mark → Option WriteFault
mark_fault (opening outer) = cond (nat_lt outer max_depth) None (Some write_faults.TooDeep)
mark_fault (next_name m n) = cond (is_lt (slice_cmp nat_cmp m n)) None (Some write_faults.Unordered)

abbrev pub first_of_list : {A : Type 0} → List A → Option A
first_of_list [] = None
first_of_list (x ∷ xs) = Some x

-- the first of the marks at which something is wrong
abbrev pub first_fault : List Mark → Option WriteFault
first_fault ms = first_of_list (filter_map mark_fault ms)

-- why a value has no canonical text: the first fault in the order of the text
abbrev pub write_fault : Json → Option WriteFault
write_fault v = first_fault (marks 0 v)
