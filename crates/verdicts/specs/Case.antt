-- How a line writes a case down.
use Rattle.std.specs.Prelude.{◌≡◌, ◌==◌, ◌<◌, ◌^◌, ℕ, List, [], ◌∷◌, codes, decimal, length, string_bytes}
use Rattle.std.specs.List.{slice_split}
use Rattle.std.specs.Str.{IsUtf8}
use Rattle.hex.specs.Hex.{IsBytes}
use Rattle.keys_roles.specs.Keys.{public_bytes, public_len}
use Rattle.keys_roles.specs.Views.{key_view}
use Rattle.metadata.specs.Shape.{kind_name}
use Rattle.verdicts.specs.declared.case.Case.{Case}
use Rattle.verdicts.specs.declared.case.Case.TheVariants.{Json, Lms, Hss, Key, Sign, HssMade, Calendar, Document, Asked, Match, Rules}
use Rattle.verdicts.specs.declared.case.CaseFault.{CaseFault}
use Rattle.verdicts.specs.declared.case.CaseFault.TheVariants.{NotUnderstood, OutOfMemory}
use Rattle.verdicts.specs.RuleCase.{rule_case_view, IsRuleText}
use Rattle.verdicts.specs.Words.{hex_word, ots_word, height_word, covering_word}

-- the words of a line, parted at each space
abbrev pub words_of : List ℕ → List (List ℕ)
words_of line = slice_split (λ b. b == 32) line

-- so many bytes
abbrev pub IsBytesOf : ℕ → List ℕ → Type 0
IsBytesOf n bytes = IsBytes bytes × (length bytes ≡ n)

-- bytes that are UTF-8
abbrev pub IsText : List ℕ → Type 0
IsText bytes = IsBytes bytes × IsUtf8 bytes

-- the words write the case down: its kind, and then a word for each of its parts
abbrev pub IsCase : List (List ℕ) → Case → Type 0
IsCase words (Json part) = (words ≡ codes "json" ∷ hex_word part.items ∷ []) × IsBytes part.items
IsCase words (Lms public signature message) =
    (words ≡ codes "lms" ∷ hex_word public.items ∷ hex_word signature.items ∷ hex_word message.items ∷ [])
    × IsBytes public.items × IsBytes signature.items × IsBytes message.items
IsCase words (Hss public signature message) =
    (words ≡ codes "hss" ∷ hex_word public.items ∷ hex_word signature.items ∷ hex_word message.items ∷ [])
    × IsBytes public.items × IsBytes signature.items × IsBytes message.items
IsCase words (Key key) =
    (words ≡ codes "key" ∷ hex_word (public_bytes (key_view key)) ∷ [])
    × IsBytesOf (public_len (key_view key)) (public_bytes (key_view key))
IsCase words (Sign seed params leaf message) =
    (words ≡ codes "sign" ∷ ots_word params.ots ∷ height_word params.height ∷ hex_word seed.identifier
    ∷ hex_word seed.secret ∷ decimal leaf ∷ hex_word message.items ∷ [])
    × IsBytesOf 16 seed.identifier × IsBytesOf 32 seed.secret × (leaf < 2 ^ 32) × IsBytes message.items
IsCase words (HssMade seed levels leaf message) =
    (words ≡ codes "hss_made" ∷ ots_word levels.top.ots ∷ height_word levels.top.height ∷ ots_word levels.bottom.ots
    ∷ height_word levels.bottom.height ∷ hex_word seed.identifier ∷ hex_word seed.secret ∷ decimal leaf ∷ hex_word message.items ∷ [])
    × IsBytesOf 16 seed.identifier × IsBytesOf 32 seed.secret × (leaf < 2 ^ 32) × IsBytes message.items
IsCase words (Calendar text) = (words ≡ codes "calendar" ∷ hex_word (string_bytes text) ∷ []) × IsText (string_bytes text)
IsCase words (Document kind bytes) = (words ≡ codes "document" ∷ kind_name kind ∷ hex_word bytes.items ∷ []) × IsBytes bytes.items
IsCase words (Asked text) = (words ≡ codes "asked" ∷ hex_word (string_bytes text) ∷ []) × IsText (string_bytes text)
IsCase words (Match covering pattern path) =
    (words ≡ codes "match" ∷ covering_word covering ∷ hex_word (string_bytes pattern) ∷ hex_word (string_bytes path) ∷ [])
    × IsText (string_bytes pattern) × IsText (string_bytes path)
IsCase words (Rules part) =
    (bytes : List ℕ) × (words ≡ codes "rules" ∷ hex_word bytes ∷ []) × IsBytes bytes × IsRuleText bytes (rule_case_view part)

-- why words are no case
abbrev pub IsCaseFault : List (List ℕ) → CaseFault → Type 0
IsCaseFault words NotUnderstood = (c : Case) → IsCase words c → ⊥
IsCaseFault words OutOfMemory = Unit {0}
