-- That each change has a line, and no line stands without one.
use Rattle.std.specs.Prelude.{◌≡◌, ◌⊎◌, ℕ, List, [], ◌∷◌, ◌++◌, take, codes, Option, Some, None}
use Rattle.std.specs.List.{AllByRecursion}
use Rattle.canonical_json.specs.Json.{Json}
use Rattle.canonical_json.specs.Spelling.{IsCanonical}
use Rattle.value_changes.specs.Changes.{Change, AreChanges}
use Rattle.change_lines.specs.declared.lines.LinesFault.{LinesFault}
use Rattle.change_lines.specs.declared.lines.LinesFault.TheVariants.{NotCanonical, OutOfMemory}

-- the signed part that is held, and an empty one where none is
abbrev pub part_of : Option (List ℕ) → List ℕ
part_of None = codes "{}"
part_of (Some held) = held

-- the two are in one target, one named document, one rule, or in the delegations: their places begin with the same two steps
abbrev pub AreTogether : Change → Change → Type 0
AreTogether c d = take 2 d.place ≡ take 2 c.place

-- changes that are told together, at least one, with their lines, at least one
abbrev pub IsPiece : {L : Type 0} → List Change → List L → Type 0
IsPiece (c ∷ cs) (l ∷ ls) = AllByRecursion (AreTogether c) cs
IsPiece changes lines = ⊥

-- The changes come in pieces, in their order, each with its lines. So no change is left out, and no line stands without a change.
pub data InPieces {L : Type 0} : List Change → List L → Type 0 where
  nothing : InPieces [] []
  piece : (changes more : List Change) (lines told : List L) → InPieces changes lines → IsPiece more told → InPieces (changes ++ more) (lines ++ told)

-- the lines tell all changes between the two parts
pub record TellsAll {L : Type 0} (held : Option (List ℕ)) (draft : List ℕ) (lines : List L) : Type 0 where
  pub before : Json
  pub after : Json
  pub is_before : IsCanonical before (part_of held)
  pub is_after : IsCanonical after draft
  pub changes : List Change
  pub all : AreChanges (Some before) (Some after) changes
  pub told : InPieces changes lines

-- the bytes are no canonical JSON
abbrev pub IsNone : List ℕ → Type 0
IsNone bytes = (v : Json) → IsCanonical v bytes → ⊥

-- there are no lines: a part is no canonical JSON, or memory was refused
abbrev pub IsUntold : Option (List ℕ) → List ℕ → LinesFault → Type 0
IsUntold held draft NotCanonical = IsNone (part_of held) ⊎ IsNone draft
IsUntold held draft OutOfMemory = Unit {0}
