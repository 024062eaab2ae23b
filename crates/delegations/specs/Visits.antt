-- The visits that a search makes.
use Rattle.std.specs.Prelude.{◌≡◌, ℕ, zero, suc, List, [], ◌∷◌, ◌++◌}
use Rattle.metadata.specs.File.{Bytes, Names}
use Rattle.delegations.specs.Delegation.{Edge}
use Rattle.delegations.specs.Search.{Shelf, most_visits, visited}
use Rattle.delegations.specs.Verdicts.{PassesBy}

-- the roles of edges, the last one first
abbrev pub last_first : List Edge → Names
last_first [] = []
last_first (e ∷ es) = last_first es ++ e.role ∷ []

module _ (V : Shelf) (path : Bytes) (now : ℕ) where
  -- with room for so many, the visits by these edges in turn, up to the first that ends the search: by a listing of the path, or because
  -- the role's document is missing or is not good
  pub data Makes : ℕ → List Edge → List Edge → Type 0 where
    no_more : {room : ℕ} → Makes room [] []
    no_room : {e : Edge} {es : List Edge} → Makes zero (e ∷ es) []
    ends : {room : ℕ} {e : Edge} {es : List Edge} → (PassesBy V path now e → ⊥) → Makes (suc room) (e ∷ es) (e ∷ [])
    passes : {room : ℕ} {e : Edge} {es made : List Edge} → PassesBy V path now e → Makes room es made → Makes (suc room) (e ∷ es) (e ∷ made)

  -- these are the roles that a search for the path visits, the last one first
  pub record Visits (roles : Names) : Type 0 where
    pub made : List Edge
    pub makes : Makes most_visits (visited V path) made
    pub are : roles ≡ last_first made
