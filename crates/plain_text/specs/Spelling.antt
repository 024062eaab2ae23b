-- Which characters stand as they are on a line that an operator reads, and how each other is spelled. A character is its code point.
use Rattle.std.specs.Prelude.{ℕ, ◌/◌, ◌%◌, Bool, false, not, ◌||◌, ◌&&◌, ◌==◌, nat_le, List, [], ◌∷◌, ◌++◌, codes, if◌then◌else◌}
use Rattle.std.specs.Fmt.{digits, digit_glyph}

abbrev is_within : ℕ → ℕ → ℕ → Bool
is_within first last c = nat_le first c && nat_le c last

-- ---- what is not plain

-- the controls: a line feed, ESC, by which a terminal is given orders, and such
abbrev pub is_control : ℕ → Bool
is_control c = nat_le c 0x1F || is_within 0x7F 0x9F c

-- says in which direction what follows is read
abbrev pub is_bidirectional : ℕ → Bool
is_bidirectional c = (c == 0x61C) || is_within 0x200E 0x200F c || is_within 0x202A 0x202E c || is_within 0x2066 0x2069 c

-- ends a line or a paragraph
abbrev pub is_separator : ℕ → Bool
is_separator c = (c == 0x2028) || (c == 0x2029)

-- is not seen
abbrev pub has_no_width : ℕ → Bool
has_no_width c = (c == 0xAD) || is_within 0x200B 0x200D c || (c == 0x2060) || (c == 0xFEFF)

abbrev pub is_hidden : ℕ → Bool
is_hidden c = is_bidirectional c || is_separator c || has_no_width c

abbrev pub is_plain : ℕ → Bool
is_plain c = not (is_control c || is_hidden c)

-- ---- how it is spelled

-- two small hexadecimal digits
abbrev pub two_digits : ℕ → List ℕ
two_digits c = digit_glyph false (c / 16) ∷ digit_glyph false (c % 16) ∷ []

-- A control is `\x` and two digits; what is hidden is `\u{`, its digits and `}`, without leading zeros; a backslash is two of them; and
-- every other character is itself.
abbrev pub spelling_of : ℕ → List ℕ
spelling_of c =
    if is_control c then codes "\\x" ++ two_digits c
    else if is_hidden c then codes "\\u{" ++ digits 16 false c ++ codes "}"
    else if c == 92 then codes "\\\\"
    else c ∷ []

-- what its spelling leaves as it is
abbrev pub is_kept : ℕ → Bool
is_kept c = is_plain c && not (c == 92)
