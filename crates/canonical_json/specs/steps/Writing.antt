-- What a writer puts between the parts of a text, and what it leaves behind when memory ends in the middle.
use Rattle.std.specs.Prelude.{◌≡◌, ℕ, List, [], ◌∷◌, ◌++◌, Bool, true, false}

-- a comma stands before each part but the first
abbrev pub comma_before : Bool → List ℕ
comma_before true = []
comma_before false = 44 ∷ []

-- bytes that begin with those that were there before
abbrev pub GoesOn : List ℕ → List ℕ → Type 0
GoesOn before after = (more : List ℕ) × (after ≡ before ++ more)
