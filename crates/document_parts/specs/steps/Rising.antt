-- Names that rise: each stands before the next.
use Rattle.std.specs.Prelude.{ℕ, List, [], ◌∷◌, Bool, true, ◌&&◌}
use Rattle.std.specs.Ordering.{is_lt}
use Rattle.document_parts.specs.Sorted.{compared}

-- the name stands before the first of the others
abbrev pub comes_before : List ℕ → List (List ℕ) → Bool
comes_before name [] = true
comes_before name (next ∷ later) = is_lt (compared name next)

abbrev pub rises : List (List ℕ) → Bool
rises [] = true
rises (name ∷ names) = comes_before name names && rises names
