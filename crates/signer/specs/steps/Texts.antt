-- The text of a file with signatures, part by part.
use Rattle.std.specs.Prelude.{ℕ, List, [], ◌∷◌, ◌++◌, codes, map}
use Rattle.std.specs.List.{join_with_byte}
use Rattle.keys_roles.specs.Plain.{Signature}

abbrev pub entry_text : List ℕ → List ℕ → List ℕ
entry_text key digits = codes "{\"keyid\":\"" ++ (key ++ (codes "\",\"sig\":\"" ++ (digits ++ codes "\"}")))

-- each entry with a comma after it
abbrev pub entries_text : List Signature → List ℕ
entries_text [] = []
entries_text (e ∷ es) = entry_text e.keyid e.sig ++ (44 ∷ entries_text es)

-- these entries, and one more after them, over the signed part
abbrev pub parts_text : List Signature → List ℕ → List ℕ → List ℕ → List ℕ
parts_text entries key digits signed =
    codes "{\"signatures\":[" ++ (entries_text entries ++ (entry_text key digits ++ (codes "],\"signed\":" ++ (signed ++ codes "}"))))

-- with a comma between each two
abbrev pub list_text : List Signature → List ℕ
list_text entries = join_with_byte 44 (map (λ e. entry_text e.keyid e.sig) entries)

-- just these entries over the signed part
abbrev pub whole_text : List Signature → List ℕ → List ℕ
whole_text entries signed = codes "{\"signatures\":[" ++ (list_text entries ++ (codes "],\"signed\":" ++ (signed ++ codes "}")))
