-- What a walk adds to the changes so far.
use Rattle.std.specs.Prelude.{◌≡◌, List, ◌++◌, map, Option}
use Rattle.canonical_json.specs.Json.{Json}
use Rattle.value_changes.specs.Changes.{Step, Change, AreChanges}

-- a change of what stands at a place, as one of what is around it
abbrev pub below : List Step → Change → Change
below front c = record c { place = front ++ c.place }

-- the changes so far, and after them those of what stands at this place
pub record Told (one other : Option Json) (front : List Step) (old new : List Change) : Type 0 where
  pub more : List Change
  pub changes : AreChanges one other more
  pub added : new ≡ old ++ map (below front) more
