-- Bodies of replies, in the pieces in which they are read. 44 is a comma, 125 a closing brace.
use Rattle.std.specs.Prelude.{ℕ, List, [], ◌∷◌, ◌++◌, Option, Some, None, codes}
use Rattle.std.specs.Fmt.{decimal}

-- an object of two numbers
abbrev pub two_numbers : List ℕ → List ℕ → ℕ → ℕ → List ℕ
two_numbers front between a b = front ++ (decimal a ++ (44 ∷ (between ++ (decimal b ++ (125 ∷ [])))))

-- the index, where there is one, before what stands behind it
abbrev pub index_before : Option ℕ → List ℕ → List ℕ
index_before None rest = rest
index_before (Some i) rest = codes "\"index\":" ++ (decimal i ++ (44 ∷ rest))
