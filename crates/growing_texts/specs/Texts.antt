-- Texts that grow, and how a text stands in a page and in JSON.
use Rattle.std.specs.Prelude.{◌≡◌, ◌⊎◌, ◌+◌, ◌/◌, ◌%◌, ℕ, List, [], ◌∷◌, ◌++◌, Option, Some, None, cond, codes, map, nat_eq, nat_lt}
use Rattle.std.specs.List.{concat}
use Rattle.growing_texts.specs.declared.writing.Text.{Text}

-- the text so far, where memory was there for each of its parts
abbrev pub said : Text → Option (List ℕ)
said t = cond t.is_cut None (Some t.bytes.items)

-- the text with more after it; or none, where memory ran out, now or before
abbrev pub Says : Text → Text → List ℕ → Type 0
Says old new more = (said new ≡ None) ⊎ ((text : List ℕ) × (said old ≡ Some text) × (said new ≡ Some (text ++ more)))

-- ---- a page (HTML, section 13.1.4: character references)

-- a byte of a text as a page has it: what begins or ends a tag, an attribute or a reference is a reference
abbrev pub on_page : ℕ → List ℕ
on_page byte =
    cond (nat_eq byte 38) (codes "&amp;") (cond (nat_eq byte 60) (codes "&lt;") (cond (nat_eq byte 62) (codes "&gt;") (cond (nat_eq byte 34) (codes "&quot;") (byte ∷ []))))

abbrev pub page_text : List ℕ → List ℕ
page_text bytes = concat (map on_page bytes)

-- ---- JSON (RFC 8259, section 7)

-- a hex digit of lower case
abbrev pub hex_digit : ℕ → ℕ
hex_digit n = cond (nat_lt n 10) (48 + n) (87 + n)

-- a control character between quotation marks
abbrev pub control : ℕ → List ℕ
control byte = codes "\\u00" ++ hex_digit (byte / 16) ∷ hex_digit (byte % 16) ∷ []

-- a byte of a text between quotation marks: these, the backslash and control characters are escaped
abbrev pub in_quotes : ℕ → List ℕ
in_quotes byte = cond (nat_eq byte 34) (codes "\\\"") (cond (nat_eq byte 92) (codes "\\\\") (cond (nat_lt byte 32) (control byte) (byte ∷ [])))

abbrev pub json_text : List ℕ → List ℕ
json_text bytes = 34 ∷ (concat (map in_quotes bytes) ++ 34 ∷ [])
