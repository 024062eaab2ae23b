-- Passing over a value of a canonical text without reading it: a text ends at its closing mark, and a list or an object
-- where as many brackets have closed as opened.
use Rattle.std.specs.Prelude.{◌≡◌, ℕ, ◌+◌, ◌-◌, List, [], ◌∷◌, ◌++◌, ◌==◌, ◌&&◌, ◌||◌, if◌then◌else◌, Option, Some, None}
use Rattle.canonical_json.specs.declared.members.Place.{Place}
use Rattle.canonical_json.specs.declared.members.Place.TheVariants.{Outside, InText, BehindSlash}

-- where the byte behind a byte of a text stands
abbrev pub place_in_text : ℕ → Place
place_in_text b = if b == 34 then Outside else (if b == 92 then BehindSlash else InText)

-- where the byte behind a byte outside of texts stands, and inside how many brackets; none where the value ended before it
abbrev pub step_outside : ℕ → ℕ → Option (Place × ℕ)
step_outside inside b =
    if b == 34 then Some (InText, inside)
    else (if (b == 91) || (b == 123) then Some (Outside, inside + 1)
    else (if (b == 93) || (b == 125) then (if inside == 0 then None else Some (Outside, inside - 1))
    else (if (b == 44) && (inside == 0) then None else Some (Outside, inside))))

abbrev pub step_over : ℕ → Place → ℕ → Option (Place × ℕ)
step_over inside BehindSlash b = Some (InText, inside)
step_over inside InText b = Some (place_in_text b, inside)
step_over inside Outside b = step_outside inside b

abbrev pub or_behind : List ℕ → (Place × ℕ → List ℕ) → Option (Place × ℕ) → List ℕ
or_behind here go None = here
or_behind here go (Some s) = go s

-- what stands behind the value that the bytes go on with
unfoldable pub behind_value : ℕ → Place → List ℕ → List ℕ
behind_value inside place [] = []
behind_value inside place (b ∷ bs) = or_behind (b ∷ bs) (λ s. behind_value s.1 s.0 bs) (step_over inside place b)

-- the second bytes are the end of the first
abbrev pub EndsWith : List ℕ → List ℕ → Type 0
EndsWith bytes back = (front : List ℕ) × (bytes ≡ front ++ back)
