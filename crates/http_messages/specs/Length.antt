-- The length of a body, as the fields of a head declare it.
use Rattle.std.specs.Prelude.{ℕ, ◌+◌, List, [], ◌∷◌, Option, Some, None, Bool, cond, ◌&&◌, ◌||◌, codes, nat_lt, nat_le, length}
use Rattle.std.specs.List.{list_all}
use Rattle.std.specs.Char.{is_ascii_digit}
use Rattle.std.specs.Str.{str_eq_ignore_ascii_case}
use Rattle.std.specs.Str.Parse.{digits_value}
use Rattle.http_messages.specs.declared.fields.Declared.{Declared}
use Rattle.http_messages.specs.declared.fields.Declared.TheVariants.{Ill, Absent, Given}

-- a field: its name, and its value without the white space around it
abbrev pub NameAndValue : Type 0
NameAndValue = List ℕ × List ℕ

-- the field has this name, without regard to ASCII case
abbrev pub is_named : List ℕ → NameAndValue → Bool
is_named word field = str_eq_ignore_ascii_case field.0 word

-- how many fields have this name
abbrev pub count_named : List ℕ → List NameAndValue → ℕ
count_named word [] = 0
count_named word (field ∷ fields) = cond (is_named word field) (1 + count_named word fields) (count_named word fields)

-- the value of the first field of this name
abbrev pub first_named : List ℕ → List NameAndValue → Option (List ℕ)
first_named word [] = None
first_named word (field ∷ fields) = cond (is_named word field) (Some field.1) (first_named word fields)

-- the number that 1 to 10 decimal digits write
abbrev pub number : List ℕ → Option ℕ
number value =
    cond (nat_lt 0 (length value) && nat_le (length value) 10 && list_all is_ascii_digit value) (Some (digits_value 10 value)) None

abbrev pub of_number : Option ℕ → Declared
of_number None = Ill
of_number (Some n) = Given n

abbrev pub of_value : Option (List ℕ) → Declared
of_value None = Absent
of_value (Some value) = of_number (number value)

-- what the fields declare: nothing, a length, or what is refused
unfoldable pub declared : List NameAndValue → Declared
declared fields =
    cond (nat_lt 0 (count_named (codes "transfer-encoding") fields) || nat_lt 1 (count_named (codes "content-length") fields)) Ill
    (of_value (first_named (codes "content-length") fields))
