-- Worked examples, computed.
use Rattle.std.specs.Prelude.{◌≡◌, ℕ, zero, suc, pos, [], ◌∷◌, length, codes, refl, Some, None}
use Rattle.canonical_json.specs.Json.{Json, null, integer, text, array, object, no_items, item, no_members, member}
use Rattle.canonical_json.specs.Spelling.{spelling, numeral}
use Rattle.canonical_json.specs.Faults.{write_fault}
use Rattle.canonical_json.specs.declared.WriteFault.TheVariants.{Unordered, TooDeep}

abbrev ab : Json
ab = object (member (codes "a") (text (codes "x\"y")) (member (codes "b") (integer (pos 1)) no_members))

example_spelling : spelling ab ≡ codes "{\"a\":\"x\\\"y\",\"b\":1}"
unfolding numeral
example_spelling = refl

example_length : length (spelling ab) ≡ 18
unfolding numeral
example_length = refl

example_ordered : write_fault ab ≡ None
example_ordered = refl

example_unordered : write_fault (object (member (codes "b") null (member (codes "a") null no_members))) ≡ Some Unordered
example_unordered = refl

-- `z` stands before `é`
example_accent : write_fault (object (member (codes "z") null (member (0xc3 ∷ 0xa9 ∷ []) null no_members))) ≡ None
example_accent = refl

-- 32 lists inside one another have a text, and 33 have none
abbrev nest : ℕ → Json
nest zero = array no_items
nest (suc n) = array (item (nest n) no_items)

example_deep : write_fault (nest 31) ≡ None
example_deep = refl

example_too_deep : write_fault (nest 32) ≡ Some TooDeep
example_too_deep = refl

-- the bracket comes before the names
example_first : write_fault (array (item (nest 32) (item (object (member (codes "b") null (member (codes "a") null no_members))) no_items))) ≡ Some TooDeep
example_first = refl
