-- Keys that rise, each from one row to the next.
use Rattle.std.specs.Prelude.{Bool, true, ◌&&◌, List, [], ◌∷◌}

abbrev pub comes_first : {K A : Type 0} → (K → K → Bool) → K → List (K × A) → Bool
comes_first below key [] = true
comes_first below key (row ∷ rows) = below key row.0

abbrev pub rises : {K A : Type 0} → (K → K → Bool) → List (K × A) → Bool
rises below [] = true
rises below (row ∷ rows) = comes_first below row.0 rows && rises below rows
